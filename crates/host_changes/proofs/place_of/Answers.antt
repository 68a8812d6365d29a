use borrow.Author.Rules.{rules}
use mathlib.Core.Path.{◌≡◌}
use native.Mathlib.Omega.{arith}
use Rattle.site.proofs.Laws.Flows.{counted_start, counted_live, counted_idle}
use Rattle.format.specs.Commands.{size_of}
use Rattle.plan_writer.proofs.Laws.Changed.{place_counted}
use Rattle.host_changes.proofs.place_of.Goals as goal
use Rattle.host_changes.proofs.place_of.Goals.{else-site-n-eq1, then-site-n-eq1}

pub loop-n-init : goal.loop-n-init
loop-n-init c = counted_start _

pub overflow_add-below : goal.overflow_add-below
overflow_add-below c = omega (arith, c.loop-n.invariant.few)

pub loop-n-preserved : goal.loop-n-preserved
loop-n-preserved c =
    elim c.if-site-n-eq1.branch [
      | then-site-n-eq1 w ↦ counted_live _ _ _ _ c.loop-n.invariant w.if-site-n-eq1.true w.below-is
      | else-site-n-eq1 w ↦ counted_idle _ _ _ _ c.loop-n.invariant w.if-site-n-eq1.false w.below-is
    ]

pub overflow_mul-result : goal.overflow_mul-result
unfolding size_of
overflow_mul-result c = rw c.size.ensures (search rules)

pub overflow_mul-result-2 : goal.overflow_mul-result-2
unfolding size_of
overflow_mul-result-2 c = rw c.size-2.ensures (omega (arith, c.loop-n.invariant.few))

pub overflow_add-result : goal.overflow_add-result
unfolding size_of
overflow_add-result c = rw (c.size.ensures, c.size-2.ensures) (omega (arith, c.loop-n.invariant.few))

pub returns : goal.returns
returns c =
    let all : c.loop-n.n ≡ c.args.number = omega arith in
    place_counted _ _ _ _ _ c.size.ensures c.size-2.ensures (rw all at c.loop-n.invariant)
