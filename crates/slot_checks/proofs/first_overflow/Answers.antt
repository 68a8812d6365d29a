use borrow.Author.Count.{below_more}
use native.Mathlib.Omega.{arith}
use Rattle.site.proofs.Laws.Flows.{left_start, left_live, left_idle}
use Rattle.slot_checks.proofs.Laws.Answers.{overflow_no, overflow_dead, overflow_none}
use Rattle.slot_checks.proofs.first_overflow.Goals as goal
use Rattle.slot_checks.proofs.first_overflow.Goals.{else-site-n-eq1, then-site-n-eq1+else-from-sum}

pub loop-n-init : goal.loop-n-init
loop-n-init c = (left_start _ _ c.flow_count-left.ensures, λ k l. absurd (omega arith))

pub loop-n-preserved : goal.loop-n-preserved
loop-n-preserved c =
    let here = c.loop-n.invariant in
    elim c.if-site-n-eq1.branch [
      | then-site-n-eq1+else-from-sum w ↦ (
        left_live _ _ _ _ here.0 w.if-site-n-eq1.true (omega arith) w.left-is,
        below_more _ _ here.1 (overflow_no _ _ _ _ w.if-site-n-eq1.true (omega (arith, w.sum.ensures, w.from-then-site-n-eq1.ensures, w.from.ensures, w.if-from-sum.false))),
      )
      | else-site-n-eq1 w ↦ (
        left_idle _ _ _ _ here.0 w.if-site-n-eq1.false w.left-is,
        below_more _ _ here.1 (overflow_dead _ _ _ _ w.if-site-n-eq1.false),
      )
    ]

pub returns-after-loop-n : goal.returns-after-loop-n
returns-after-loop-n c =
    let here = c.loop-n.invariant in overflow_none _ _ _ _ (λ k a b. absurd (omega (arith, c.loop-n-test.false))) here.1
