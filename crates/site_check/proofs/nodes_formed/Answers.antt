use borrow.Author.Tests.{lt-leb, le-leb}
use mathlib.Core.Path.{refl, sym, ◌∙◌}
use native.Mathlib.Omega.{arith}
use Rattle.lists.proofs.Laws.Search.{first_hit, first_miss, first_end}
use Rattle.site_check.specs.Check.{node_of, first_ill_node}
use Rattle.site_check.proofs.nodes_formed.Goals as goal

pub loop-i-init : goal.loop-i-init
unfolding first_ill_node
loop-i-init c = refl

pub returns-then-ill_node : goal.returns-then-ill_node
unfolding node_of
returns-then-ill_node c =
    let e = c.loop-i.invariant ∙ first_hit _ _ _ (omega arith) (sym c.ill_node.ensures ∙ c.if-ill_node.true) in
    sym (lt-leb _ _ (omega (arith, e)))

pub loop-i-preserved : goal.loop-i-preserved
unfolding node_of
loop-i-preserved c = c.loop-i.invariant ∙ first_miss _ _ _ (omega arith) (sym c.ill_node.ensures ∙ c.if-ill_node.false)

pub returns : goal.returns
returns c = let e = c.loop-i.invariant ∙ first_end _ _ _ (omega arith) in sym (le-leb _ _ (omega (arith, e)))
