-- Outcomes of operations: what a chain of checks comes to, and what it leaves.
use Prim.Native.Nat.{ℕ, ◌<◌}
use mathlib.Core.Path.{◌≡◌, refl, sym, ◌∙◌, ap}
use mathlib.Core.Bool.{Bool, true, false, cond, false≢true}
use mathlib.Core.Logic.{inl, inr, ⊎_elim, ◌↔◌}
use lib.Dec.{eqb}
use borrow.Author.Tests.{eq-eqb, ne_eqb, eqb-true}
use native.Mathlib.Omega.{arith}
use Rattle.rulings.specs.Outcome.{Outcome, accepted, refused, checked, settled, Checks, none, check, Ruled}

module _ {A : Type 0} where
  -- What is refused is not accepted.
  pub refused_not : {a : A} {number place : ℕ} (o : Outcome A) → o ≡ refused number place → o ≡ accepted a → ⊥
  refused_not o r e = let z : ◌≡◌ {A = ℕ} 0 1 = cc in omega arith

  -- A check that is passed leaves those behind it.
  pub past : (t : Bool) (number place : ℕ) (rest : Outcome A) {a : A} → cond t (refused number place) rest ≡ accepted a → (t ≡ false) × (rest ≡ accepted a)
  past true number place rest e = absurd (refused_not _ refl e)
  past false number place rest e = (refl, e)

  pub checked_pass : (number : ℕ) (others : Outcome A) → number ≡ 0 → checked number others ≡ others
  unfolding checked
  checked_pass number others e = rw (eq-eqb _ _ e)

  pub checked_fail : (number : ℕ) (others : Outcome A) → (number ≡ 0 → ⊥) → checked number others ≡ refused number 0
  unfolding checked
  checked_fail number others e = rw (ne_eqb _ _ e)

  pub checked_past : (number : ℕ) (others : Outcome A) {a : A} → checked number others ≡ accepted a → (number ≡ 0) × (others ≡ accepted a)
  unfolding checked
  checked_past number others {a = a} e = go (eqb number 0) refl e
    where
      go : (t : Bool) → eqb number 0 ≡ t → cond t others (refused number 0) ≡ accepted a → (number ≡ 0) × (others ≡ accepted a)
      go true q e = (eqb-true _ _ q, e)
      go false q e = absurd (refused_not _ refl e)

  -- A test that chooses between two numbers is a check of its own.
  pub checked_choice : (t : Bool) (number rest : ℕ) (others : Outcome A) → 0 < number
      → checked (cond t number rest) others ≡ cond t (refused number 0) (checked rest others)
  checked_choice true number rest others l = checked_fail number others (omega arith)
  checked_choice false number rest others l = refl

  -- What a call leaves.
  pub settled_accepted : {B : Type 0} {a : A} (o : Outcome A) (new old : B) → accepted a ≡ o → settled o new old ≡ new
  unfolding settled
  settled_accepted o new old e = rw (← e)

  pub settled_refused : {B : Type 0} {number place : ℕ} (o : Outcome A) (new old : B) → refused number place ≡ o → settled o new old ≡ old
  unfolding settled
  settled_refused o new old e = rw (← e)

  -- A chain of checks means what the words say: each test is that of its check, at one place.
  module _ (gives : A → Type 0) (o : Outcome A) where
    pub ruled_check : (t : Bool) (number place : ℕ) (fails : ℕ → Type 0) (cs : Checks) (rest : Outcome A)
        → (t ≡ true → fails place) → ((p : ℕ) → fails p → (t ≡ true) × (p ≡ place)) → (t ≡ false → (rest ≡ o) ↔ Ruled gives cs o)
        → (cond t (refused number place) rest ≡ o) ↔ Ruled gives (check number fails cs) o
    unfolding Ruled
    ruled_check true number place fails cs rest w u r = (
      λ e. inl (place, sym e, w refl),
      ⊎_elim (λ f. sym (f.1 ∙ ap (refused number) (u f.0 f.2).1)) (λ f. absurd (f.0 place (w refl))),
    )
    ruled_check false number place fails cs rest w u r = (
      λ e. inr (λ p f. false≢true (u p f).0, (r refl).0 e),
      ⊎_elim (λ f. absurd (false≢true (u f.0 f.2).0)) (λ f. (r refl).1 f.1),
    )

    -- A check with one place, by its test.
    pub ruled_test : (t : Bool) (number place : ℕ) (F : Type 0) (cs : Checks) (rest : Outcome A) → ((t ≡ true) ↔ F)
        → (t ≡ false → (rest ≡ o) ↔ Ruled gives cs o)
        → (cond t (refused number place) rest ≡ o) ↔ Ruled gives (check number (λ p. F × (p ≡ place)) cs) o
    ruled_test t number place F cs rest w r = ruled_check t number place _ cs rest (λ e. (w.0 e, refl)) (λ p f. (w.1 f.0, f.1)) r

    pub ruled_end : (a : A) → gives a → ((b : A) → gives b → b ≡ a) → (accepted a ≡ o) ↔ Ruled gives none o
    unfolding Ruled
    ruled_end a g u = (λ e. (a, sym e, g), λ w. sym (w.1 ∙ ap accepted (u w.0 w.2)))
