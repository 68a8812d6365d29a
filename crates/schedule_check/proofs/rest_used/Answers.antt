use mathlib.Core.Path.{sym, ◌∙◌}
use native.Mathlib.Omega.{arith}
use Rattle.schedule_check.specs.Schedules.{of_lists}
use Rattle.schedule_check.proofs.Laws.Check.{rest_walked, seen_next, seen_end}
use Rattle.schedule_check.proofs.rest_used.Goals as goal

pub loop-i-preserved : goal.loop-i-preserved
loop-i-preserved c = seen_next _ _ _ _ _ c.loop-i.invariant (omega arith) _ c.in_use-used.ensures

pub returns : goal.returns
returns c =
    seen_end _ _ _ _ _ c.loop-i.invariant (omega arith)
    ∙ sym (rest_walked (of_lists c.args.links c.args.offsets.now c.args.periods.now) (omega arith) (omega arith))
