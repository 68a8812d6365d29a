use Rattle.std.proofs.Common.{◌≡◌, ◌||◌, true, false, eqb, ltb, rules, tests}
use Rattle.std.proofs.lemmas.Iterator.{IsFirst-from_position, YieldsList-from_slice}
use Rattle.bases.proofs.Laws.{bad_is}
use Rattle.bases.proofs.first_bad.Goals as goal

pub returns : goal.returns
returns c =
    bad_is c.args.gaps.now _ (λ g. eqb g 0 || ltb 1024 g ≡ true) (λ g. eqb g 0 || ltb 1024 g ≡ false) (λ g w. w) (λ g w. w)
    (IsFirst-from_position _ _ _ (λ g. eqb g 0 || ltb 1024 g ≡ true) (λ g. eqb g 0 || ltb 1024 g ≡ false) c.position.ensures.ran (YieldsList-from_slice c.args.gaps.now cc) (λ x q k. search (rules, tests)) (λ x q k. search (rules, tests)))
