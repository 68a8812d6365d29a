-- Checks in an order, whatever is checked: of a call on what is read, and of one operation behind another.
use Prim.Native.Nat.{ℕ}
use mathlib.Core.Path.{◌≡◌, refl, sym, ◌∙◌}
use mathlib.Core.Bool.{Bool, true, false, not, cond, false≢true}
use mathlib.Core.List.{List}
use mathlib.Core.Logic.{◌⊎◌, inl, inr, ⊎_elim, ◌↔◌}
use lib.Dec.{eqb, ltb}
use lib.ListN.{length}
use borrow.Author.Tests.{lt-ltb, ltb-true, eq-eqb, eqb-true, not-false}
use native.Mathlib.Decide.{ℕ_discrete}
use Rattle.rulings.specs.Outcome.{Outcome, Ruling, accepted, refused, Checks, none, check, Ruled, nothing}
use Rattle.rulings.proofs.Laws.Choices.{not_when}
use Rattle.rulings.proofs.Laws.Outcomes.{refused_not, ruled_check, ruled_end}
use Rattle.site.specs.declared.Site.{Site}
use Rattle.slices.specs.Written.{written}
use Rattle.plan_reader.specs.Read.{read_of}
use Rattle.host_answers.specs.Calls.{by_reading, on_site, of_length}
use Rattle.host_runs.specs.Words.{length_checks, room_check, on_read, standing_checks}

module _ {A : Type 0} (gives : A → Type 0) (o : Outcome A) where
  -- A check that does not fail leaves those behind it.
  pub check_passes : (r : Outcome A) (number : ℕ) (fails : ℕ → Type 0) (cs : Checks) → ((p : ℕ) → fails p → ⊥)
      → (r ≡ o) ↔ Ruled gives cs o → (r ≡ o) ↔ Ruled gives (check number fails cs) o
  check_passes r number fails cs never behind =
      ruled_check gives o false number 0 fails cs r (λ e. absurd (false≢true e)) (λ p f. absurd (never p f)) (λ _. behind)

  -- One that fails, at one place.
  pub check_fails : (number place : ℕ) (fails : ℕ → Type 0) (cs : Checks) → fails place → ((p : ℕ) → fails p → p ≡ place)
      → (refused number place ≡ o) ↔ Ruled gives (check number fails cs) o
  check_fails number place fails cs here once =
      ruled_check gives o true number place fails cs (refused number place) (λ e. here) (λ p f. (refl, once p f)) (λ e. absurd (false≢true (sym e)))

  -- A call r on what is read tells the refusal of the reading. Each number of such a refusal is a check of its own.
  pub check_reading : {B : Type 0} (read : Outcome B) (r : Outcome A) → ((n p : ℕ) → read ≡ refused n p → r ≡ refused n p)
      → (number : ℕ) (fails : ℕ → Type 0) (cs : Checks) → ((p : ℕ) → (read ≡ refused number p) ↔ fails p)
      → (((p : ℕ) → read ≡ refused number p → ⊥) → (r ≡ o) ↔ Ruled gives cs o)
      → (r ≡ o) ↔ Ruled gives (check number fails cs) o
  unfolding Ruled
  check_reading {B = B} read r tells number fails cs words behind = go read refl
    where
      other : ((p : ℕ) → read ≡ refused number p → ⊥) → (r ≡ o) ↔ Ruled gives (check number fails cs) o
      other never = check_passes r number fails cs (λ p f. never p ((words p).1 f)) (behind never)

      this : (p : ℕ) → read ≡ refused number p → (r ≡ o) ↔ Ruled gives (check number fails cs) o
      this p e = (
        λ k. inl (p, sym k ∙ tells number p e, (words p).0 e),
        ⊎_elim (λ f. tells number f.0 ((words f.0).1 f.2) ∙ sym f.1) (λ f. absurd (f.0 p ((words p).0 e))),
      )

      go : (q : Outcome B) → read ≡ q → (r ≡ o) ↔ Ruled gives (check number fails cs) o
      go (accepted b) e = other (λ p f. refused_not read f e)
      go (refused m p) e = decided (ℕ_discrete m number)
        where
          decided : Dec (m ≡ number) → (r ≡ o) ↔ Ruled gives (check number fails cs) o
          decided (yes z) = this p (rw z at e)
          decided (no n) = other (λ q f. n cc)

  -- A check by its test, of a call whose outcome stands beside what it leaves.
  pub check_test : {R : Type 0} (outcome : R → Outcome A) (t : Bool) (a b : R) (number place : ℕ) (fails : ℕ → Type 0) (cs : Checks)
      → outcome a ≡ refused number place → (t ≡ true → fails place) → ((p : ℕ) → fails p → (t ≡ true) × (p ≡ place))
      → (t ≡ false → (outcome b ≡ o) ↔ Ruled gives cs o) → (outcome (cond t a b) ≡ o) ↔ Ruled gives (check number fails cs) o
  check_test outcome true a b number place fails cs first here once behind = rw first (check_fails number place fails cs (here refl) (λ p f. (once p f).1))
  check_test outcome false a b number place fails cs first here once behind =
      check_passes (outcome b) number fails cs (λ p f. false≢true (once p f).0) (behind refl)

  -- 1, of a list that must have a length.
  pub check_length : {R : Type 0} (outcome : R → Outcome A) (list : List ℕ) (n : ℕ) (a b : R) (cs : Checks) → outcome a ≡ refused 1 0
      → (length list ≡ n → (outcome b ≡ o) ↔ Ruled gives cs o) → (outcome (of_length list n a b) ≡ o) ↔ Ruled gives (length_checks list n cs) o
  unfolding of_length
  check_length outcome list n a b cs first behind =
      check_test outcome (not (eqb (length list) n)) a b 1 0 _ cs first (λ e. (test.0 e, refl)) (λ p f. (test.1 f.0, f.1))
      (λ e. behind (eqb-true _ _ (not-false _ e)))
    where
      test : (not (eqb (length list) n) ≡ true) ↔ (length list ≡ n → ⊥)
      test = not_when (eqb (length list) n) _ (eqb-true _ _, eq-eqb _ _)

  -- 14, of plan bytes.
  pub check_standing : {R : Type 0} (outcome : R → Outcome A) (plan : List ℕ) (a : R) (f : Site → R) (checks : Site → Checks) → outcome a ≡ refused 14 0
      → ((s : Site) → read_of plan ≡ accepted s → (outcome (f s) ≡ o) ↔ Ruled gives (checks s) o)
      → (outcome (on_site plan a f) ≡ o) ↔ Ruled gives (standing_checks plan checks) o
  unfolding on_site by_reading on_read
  check_standing {R = R} outcome plan a f checks first behind = go (read_of plan) refl
    where
      go : (q : Outcome Site) → read_of plan ≡ q → (outcome (by_reading q (λ number place. a) f) ≡ o)
          ↔ Ruled gives (check 14 (λ p. ((s : Site) → read_of plan ≡ accepted s → ⊥) × (p ≡ 0)) (on_read q checks)) o
      go (accepted s) e = check_passes _ 14 _ _ (λ p w. w.0 s e) (behind s e)
      go (refused number place) e = rw first (check_fails 14 0 _ _ (λ s w. refused_not _ e w, refl) (λ p w. w.1))

-- The checks of the site that plan bytes read to.
pub ruled_on : {A : Type 0} (gives : A → Type 0) (o r : Outcome A) (plan : List ℕ) (s : Site) (checks : Site → Checks) → read_of plan ≡ accepted s
    → (r ≡ o) ↔ Ruled gives (checks s) o → (r ≡ o) ↔ Ruled gives (on_read (read_of plan) checks) o
unfolding on_read
ruled_on gives o r plan s checks e w = rw e w

-- The last 1, of a writer's slice.
pub check_room : (gives : ℕ → Type 0) (o : Outcome ℕ) (bytes out : List ℕ) → gives (length bytes) → ((n : ℕ) → gives n → n ≡ length bytes)
    → ((written bytes out).0 ≡ o) ↔ Ruled gives (room_check bytes out) o
unfolding written
check_room gives o bytes out is once =
    check_test gives o (λ (w : Outcome ℕ × List ℕ). w.0) (ltb (length out) (length bytes)) _ _ 1 0 _ none refl
    (λ e. (ltb-true _ _ e, refl)) (λ p f. (lt-ltb _ _ f.0, f.1)) (λ _. ruled_end gives o (length bytes) is once)

-- The checks of one operation, then those of another.
unfoldable pub following : Checks → Checks → Checks
following none rest = rest
following (check number fails cs) rest = check number fails (following cs rest)

-- The ruling r is the one that these checks give.
abbrev pub RuledBy : Ruling → Checks → Type 0
RuledBy r cs = (o : Ruling) → (r ≡ o) ↔ Ruled nothing cs o

-- Behind a check that does not fail.
pub ruled_behind : (r : Ruling) (number : ℕ) (fails : ℕ → Type 0) (cs : Checks) → ((p : ℕ) → fails p → ⊥) → RuledBy r (check number fails cs) → RuledBy r cs
unfolding Ruled
ruled_behind r number fails cs never w o =
    (λ e. ⊎_elim (λ f. absurd (never f.0 f.2)) (λ f. f.1) ((w o).0 e), λ v. (w o).1 (inr (never, v)))

-- An operation whose ruling is refused refuses the call with it, and else the other operation is judged.
pub ruled_then : {A : Type 0} (gives : A → Type 0) (o x : Outcome A) (r : Ruling) (cs rest : Checks) → RuledBy r cs
    → ((number place : ℕ) → r ≡ refused number place → x ≡ refused number place) → (r ≡ accepted tt → (x ≡ o) ↔ Ruled gives rest o)
    → (x ≡ o) ↔ Ruled gives (following cs rest) o
unfolding following Ruled
ruled_then gives o x r none rest w tells behind = behind ((w r).0 refl).1
ruled_then gives o x r (check number fails cs) rest w tells behind =
    go ((w r).0 refl) (λ never. ruled_then gives o x r cs rest (ruled_behind r number fails cs never w) tells behind)
  where
    go : ((p : ℕ) × (r ≡ refused number p) × fails p) ⊎ (((p : ℕ) → fails p → ⊥) × Ruled nothing cs r)
        → (((p : ℕ) → fails p → ⊥) → (x ≡ o) ↔ Ruled gives (following cs rest) o)
        → (x ≡ o) ↔ Ruled gives (check number fails (following cs rest)) o
    go (inl (p, e, f)) next = (
      λ k. inl (p, sym k ∙ tells number p e, f),
      ⊎_elim (λ g. tells number g.0 ((w (refused number g.0)).1 (inl (g.0, refl, g.2))) ∙ sym g.1) (λ g. absurd (g.0 p f)),
    )
    go (inr (never, v)) next = check_passes gives o x number fails (following cs rest) never (next never)
