use borrow.Author.Tests.{lt-leb, le-leb}
use mathlib.Core.Path.{refl, sym, ◌∙◌}
use native.Mathlib.Omega.{arith}
use Rattle.lists.proofs.Laws.Search.{first_hit, first_miss, first_end}
use Rattle.site_check.specs.Check.{flow_of, first_ill_flow}
use Rattle.site_check.proofs.flows_formed.Goals as goal

pub loop-n-init : goal.loop-n-init
unfolding first_ill_flow
loop-n-init c = refl

pub returns-then-ill_flow : goal.returns-then-ill_flow
unfolding flow_of
returns-then-ill_flow c =
    let e = c.loop-n.invariant ∙ first_hit _ _ _ (omega arith) (sym c.ill_flow.ensures ∙ c.if-ill_flow.true) in
    sym (lt-leb _ _ (omega (arith, e)))

pub loop-n-preserved : goal.loop-n-preserved
unfolding flow_of
loop-n-preserved c = c.loop-n.invariant ∙ first_miss _ _ _ (omega arith) (sym c.ill_flow.ensures ∙ c.if-ill_flow.false)

pub returns : goal.returns
returns c = let e = c.loop-n.invariant ∙ first_end _ _ _ (omega arith) in sym (le-leb _ _ (omega (arith, e)))
