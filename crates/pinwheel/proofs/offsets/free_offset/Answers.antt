use mathlib.Core.Path.{◌≡◌, refl, sym, ◌∙◌, ap}
use mathlib.Core.Bool.{true, false, not}
use Prim.Native.Nat.{◌-◌}
use lib.ListN.{length}
use borrow.Author.Tests.{eq-eqb, ne_eqb}
use native.Mathlib.Omega.{arith}
use Rattle.slot_rule.specs.Rule.{sends}
use Rattle.pinwheel.specs.Inner.{steps_of, places_of, some_sends}
use Rattle.pinwheel.proofs.offsets.free_offset.Invariants.{one}
use Rattle.pinwheel.proofs.Laws.Turns.{dealt_sends}
use Rattle.lists.proofs.Laws.Search.{first_hit, first_miss, first_end, any_hit, any_miss, any_end}
use Rattle.pinwheel.proofs.offsets.free_offset.Goals as goal

pub earlier-init : goal.earlier-init
unfolding some_sends
earlier-init c =
    let all : length c.args.dealt.now - 0 ≡ length c.args.dealt.now = omega arith in
    record { same = refl; below = c.if-candidate-period.false; answer = c.search.invariant; none = rw all }

pub search-preserved : goal.search-preserved
unfolding sends
search-preserved c =
    let try = c.earlier.invariant in
    let sent : one (steps_of c.args.dealt.now) (places_of c.args.dealt.now) c.earlier.candidate c.earlier.child-index ≡ true =
    dealt_sends _ _ _ c.earlier-test.true ∙ eq-eqb _ _ (omega arith) in
    try.answer ∙ first_miss _ _ _ try.below (ap not (try.none ∙ any_hit _ _ _ c.earlier-test.true sent))

pub earlier-preserved : goal.earlier-preserved
unfolding sends
earlier-preserved c =
    let try = c.earlier.invariant in
    let silent : one (steps_of c.args.dealt.now) (places_of c.args.dealt.now) c.earlier.candidate c.earlier.child-index ≡ false =
    dealt_sends _ _ _ c.earlier-test.true ∙ ne_eqb _ _ (omega arith) in
    record {
      same = try.same;
      below = try.below;
      answer = try.answer;
      none = try.none ∙ any_miss _ _ _ c.earlier-test.true silent;
    }

pub returns-then-candidate-period : goal.returns-then-candidate-period
returns-then-candidate-period c = sym (c.search.invariant ∙ first_end _ _ _ c.if-candidate-period.true)

pub returns-after-earlier : goal.returns-after-earlier
returns-after-earlier c =
    let try = c.earlier.invariant in
    sym (try.answer ∙ first_hit _ _ _ try.below (ap not (try.none ∙ any_end _ _ _ c.earlier-test.false)))
