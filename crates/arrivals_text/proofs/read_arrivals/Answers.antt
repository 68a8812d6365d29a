use Rattle.arrivals_text.proofs.Laws.Words.{reading_start, reading_end, reading_stopped, reading_again, reading_more}
use Rattle.arrivals_text.proofs.read_arrivals.Goals as goal

pub loop-word-init : goal.loop-word-init
loop-word-init c = reading_start _ _

pub returns-in_err-flow : goal.returns-in_err-flow
returns-in_err-flow c =
    rw c.from_residual.ensures (reading_stopped _ _ _ _ _ c.loop-word.invariant _ _ c.in-Some.ensures c.in_err-flow.ensures.0)

pub returns-then-named-flow : goal.returns-then-named-flow
returns-then-named-flow c =
    reading_again _ _ _ _ _ c.loop-word.invariant _ _ c.in-Some.ensures _ _ c.in_ok-flow.ensures.0 c.if-named-flow.true

pub loop-word-preserved : goal.loop-word-preserved
loop-word-preserved c =
    reading_more _ _ _ _ _ c.loop-word.invariant _ _ c.in-Some.ensures _ _ c.in_ok-flow.ensures.0 c.if-named-flow.false

pub returns : goal.returns
returns c = reading_end _ _ _ _ _ c.loop-word.invariant c.in_default.ensures
