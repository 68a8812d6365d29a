-- The tests of 19 and 20 say what the words say, and a search finds the lowest number.
pub mod Answers
use Prim.Native.Nat.{ℕ, ◌<◌}
use mathlib.Core.Path.{◌≡◌, refl, sym, ◌∙◌}
use mathlib.Core.Bool.{Bool, true, false, not, cond, false≢true, and-eq-true_iff}
use mathlib.Core.List.{List}
use mathlib.Core.Logic.{◌↔◌}
use lib.Dec.{ltb}
use borrow.Author.Tests.{lt-ltb, ltb-true, not-true}
use Rattle.rulings.specs.Outcome.{Ruling, refused, Checks, check, Ruled, nothing}
use Rattle.lists.specs.Search.{first}
use Rattle.rulings.proofs.Laws.Outcomes.{ruled_check}
use Rattle.lists.proofs.Laws.Search.{first_found}
use Rattle.site.specs.declared.Site.{Site}
use Rattle.site.specs.Sites.{live}
use Rattle.slot_checks.specs.Checks.{overflows, unexpected}
use Rattle.slot_checks.specs.Words.{Overflows, Unexpected, Lowest}

-- The tests of 19 and 20 in words.
pub overflows_when : (s : Site) (cs xs : List ℕ) (n : ℕ) → (overflows s cs xs n ≡ true) ↔ Overflows s cs xs n
unfolding overflows
overflows_when s cs xs n = (
  λ e. let w = (and-eq-true_iff (live s n) _).0 e in (w.0, ltb-true _ _ w.1),
  λ w. rw (w.0, lt-ltb _ _ w.1),
)

pub unexpected_when : (s : Site) (xs : List ℕ) (n : ℕ) → (unexpected s xs n ≡ true) ↔ Unexpected s xs n
unfolding unexpected
unexpected_when s xs n = (
  λ e. let w = (and-eq-true_iff (not (live s n)) _).0 e in (not-true _ w.0, ltb-true _ _ w.1),
  λ w. rw (w.0, lt-ltb _ _ w.1),
)

-- A search over the 64 numbers finds the lowest that has the test in words, and none just when none has.
module _ (p : ℕ → Bool) (P : ℕ → Type 0) (w : (n : ℕ) → (p n ≡ true) ↔ P n) where
  lowest_when : (n : ℕ) → ((first p 64 0 ≡ n) × (n < 64)) ↔ Lowest P n
  lowest_when n = (
    λ e. let f = (first_found p 64 n).0 e in
        record { few = f.0; here = (w n).0 f.1; lower = λ k l h. false≢true (sym (f.2 k l) ∙ (w k).1 h) },
    λ l. (first_found p 64 n).1 (l.few, (w n).1 l.here, λ k h. silent k h (p k) refl l),
  )
    where
      silent : (k : ℕ) → k < n → (b : Bool) → p k ≡ b → Lowest P n → b ≡ false
      silent k h true q l = absurd (l.lower k h ((w k).0 q))
      silent k h false q l = refl

  -- A check whose place is what the search finds.
  pub lowest_first : (o : Ruling) (number : ℕ) (cs : Checks) (rest : Ruling) → (rest ≡ o) ↔ Ruled nothing cs o
      → (cond (ltb (first p 64 0) 64) (refused number (first p 64 0)) rest ≡ o) ↔ Ruled nothing (check number (λ q. Lowest P q) cs) o
  lowest_first o number cs rest behind =
      ruled_check nothing o (ltb (first p 64 0) 64) number (first p 64 0) (λ q. Lowest P q) cs rest
      (λ e. (lowest_when _).0 (refl, ltb-true _ _ e))
      (λ q l. let f = (lowest_when q).1 l in (rw f.0 (lt-ltb _ _ f.1), sym f.0)) (λ _. behind)
