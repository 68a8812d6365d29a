use borrow.Author.Rules.{rules}
use mathlib.Core.Path.{◌≡◌}
use lib.ListN.{length}
use native.Mathlib.Omega.{arith}
use Rattle.site.specs.Sites.{empty_site}
use Rattle.site.proofs.Laws.Flows.{counted_start, counted_live, counted_idle, counted_end}
use Rattle.site.proofs.live_count.Goals as goal
use Rattle.site.proofs.live_count.Goals.{else-state-eq1, then-state-eq1}

pub loop-state-init : goal.loop-state-init
loop-state-init c = λ s. counted_start _

pub overflow_add-count : goal.overflow_add-count
overflow_add-count c = let a : length c.args.states.now ≡ 64 = search rules in omega (arith, (c.loop-state.invariant empty_site).few)

pub loop-state-preserved : goal.loop-state-preserved
loop-state-preserved c =
    let sofar = c.loop-state.invariant in
    elim c.if-state-eq1.branch [
      | then-state-eq1 w ↦ λ s. counted_live _ _ _ _ (sofar s) w.if-state-eq1.true w.count-is
      | else-state-eq1 w ↦ λ s. counted_idle _ _ _ _ (sofar s) w.if-state-eq1.false w.count-is
    ]

pub returns : goal.returns
returns c = let a : length c.args.states.now ≡ 64 = search rules in λ s. counted_end _ _ _ (c.loop-state.invariant s) (omega arith)
