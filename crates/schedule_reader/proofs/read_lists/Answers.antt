use mathlib.Core.Path.{refl, sym, ◌∙◌}
use native.Mathlib.Omega.{arith}
use Rattle.std.proofs.lemmas.Result.{err_from_is_err_and}
use Rattle.format.proofs.Laws.Reading.{read_out, read_end}
use Rattle.schedule_reader.specs.Read.{schedules, link_added}
use Rattle.schedule_reader.proofs.Laws.Readings.{schedule_start, link_refused, link_taken}
use Rattle.schedule_reader.proofs.read_lists.Goals as goal

pub loop-at-init : goal.loop-at-init
loop-at-init c = sym (schedule_start _)

pub returns-then-bytes-at : goal.returns-then-bytes-at
returns-then-bytes-at c = c.end.ensures _ _ ∙ sym (read_end schedules _ _ _ (omega arith) c.if-bytes-at.true) ∙ c.loop-at.invariant

pub returns-in_err-link : goal.returns-in_err-link
returns-in_err-link c =
    let p = err_from_is_err_and c.from_residual.result c.from_residual.ensures.1 in
    rw (p.1, p.2) (sym (link_refused _ _ _ (omega arith) c.if-bytes-at.false _ _ (c.in_err-link.ensures.judged _ refl)) ∙ c.loop-at.invariant)

pub loop-at-preserved : goal.loop-at-preserved
unfolding link_added
loop-at-preserved c =
    sym (link_taken _ _ _ (omega arith) c.if-bytes-at.false _ _ (c.in_ok-link.ensures.judged _ refl) c.schedule_size-at.ensures) ∙ c.loop-at.invariant

pub returns : goal.returns
returns c = rw c.at.ensures (sym (read_out schedules _ _ _ (omega arith)) ∙ c.loop-at.invariant)
