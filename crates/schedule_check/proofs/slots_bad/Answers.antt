use mathlib.Core.Path.{sym, ◌∙◌}
use native.Mathlib.Omega.{arith}
use Rattle.schedule_check.specs.Schedules.{of_lists}
use Rattle.schedule_check.proofs.Laws.Check.{slots_walked, seen_next, seen_end}
use Rattle.schedule_check.proofs.slots_bad.Goals as goal

pub loop-i-preserved : goal.loop-i-preserved
loop-i-preserved c = seen_next _ _ _ _ _ c.loop-i.invariant (omega arith) _ c.bad_slots-outside.ensures

pub returns : goal.returns
returns c =
    seen_end _ _ _ _ _ c.loop-i.invariant (omega arith)
    ∙ sym (slots_walked (of_lists c.args.links c.args.offsets.now c.args.periods.now) (omega arith) (omega arith) (omega arith))
