-- What the proofs of hosts' calls share: what the readers answer, lists of a length, and the site that some plan bytes read to, whose check 14 need not be asked again.
use Prim.Native.Nat.{ℕ}
use mathlib.Core.Path.{◌≡◌, refl, sym}
use mathlib.Core.Bool.{Bool, true, false, not, cond}
use mathlib.Core.List.{List}
use lib.Dec.{eqb}
use lib.ListN.{length}
use borrow.Author.Tests.{eq-eqb, ne_eqb, eqb-true}
use native.Mathlib.Omega.{arith}
use Rattle.rulings.specs.Outcome.{Outcome, accepted, refused}
use Rattle.rulings.proofs.Laws.Outcomes.{refused_not}
use Rattle.site.specs.declared.Site.{Site}
use Rattle.site_check.specs.Check.{passes_of, call_fault}
use Rattle.site_check.proofs.Laws.{passes_sound, call_when}
use Rattle.format.specs.Words.{Bytes}
use Rattle.plan_reader.specs.Read.{read_of}
use Rattle.plan.proofs.Laws.{passes_when}
use Rattle.plan.proofs.Laws.Near.{read_near}
use Rattle.host_answers.specs.Answers.{told, answer_of}
use Rattle.host_answers.specs.Calls.{by_reading, on_site, of_length}
use Rattle.host_answers.proofs.Laws.Told.{told_no}

-- What is refused is not accepted.
pub unlike : {number place value : ℕ} → ◌≡◌ {A = Outcome ℕ} (refused number place) (accepted value) → ⊥
unlike e = refused_not _ refl e

-- Some bytes read to the site, so check 14 lets it pass.
pub read_standing : (bytes : List ℕ) → Bytes bytes → (s : Site) → read_of bytes ≡ accepted s → passes_of s ≡ true
read_standing bytes small s e = (passes_when s).1 (bytes, small, e)

-- A call by what a reading came to.
module _ {A B : Type 0} (o : Outcome B) (f : B → A) (other : ℕ → ℕ → A) where
  pub by_yes : (b : B) → o ≡ accepted b → f b ≡ by_reading o other f
  unfolding by_reading
  by_yes b e = rw e

  pub by_no : (number place : ℕ) → o ≡ refused number place → other number place ≡ by_reading o other f
  unfolding by_reading
  by_no number place e = rw e

-- The refusal of a reading, as an answer.
pub read_told : (bytes : List ℕ) → Bytes bytes → (number place answer : ℕ) → refused number place ≡ read_of bytes → answer ≡ answer_of (refused number place)
    → told answer ≡ refused number place
read_told bytes small number place answer e r =
    let near = read_near bytes small number place (sym e) in told_no answer number place r near.0 (omega (arith, near.1))

-- A call on a live site, and one on bytes that read to none.
module _ {A : Type 0} (bytes : List ℕ) (f : Site → A) (a : A) where
  pub on_yes : (s : Site) → accepted s ≡ read_of bytes → f s ≡ on_site bytes a f
  unfolding on_site
  on_yes s e = by_yes (read_of bytes) f (λ number place. a) s (sym e)

  pub on_no : (number place : ℕ) → refused number place ≡ read_of bytes → a ≡ on_site bytes a f
  unfolding on_site
  on_no number place e = by_no (read_of bytes) f (λ m p. a) number place (sym e)

-- A list of the right length, and another one.
module _ {A : Type 0} (list : List ℕ) (n : ℕ) (a b : A) where
  pub of_length_lem : length list ≡ n → b ≡ of_length list n a b
  unfolding of_length
  of_length_lem e = rw (eq-eqb _ _ e)

  pub off_length : (length list ≡ n → ⊥) → a ≡ of_length list n a b
  unfolding of_length
  off_length e = rw (ne_eqb _ _ e)

-- An accepted call on a live site: the bytes read to a site, and the call on it came to this.
pub by_site : {A : Type 0} (bytes : List ℕ) (otherwise a : A) (f : Site → A) → (otherwise ≡ a → ⊥) → on_site bytes otherwise f ≡ a
    → (s : Site) × (read_of bytes ≡ accepted s) × (f s ≡ a)
unfolding on_site by_reading
by_site {A = A} bytes otherwise a f differs e = go (read_of bytes) refl e
  where
    go : (o : Outcome Site) → read_of bytes ≡ o → by_reading o (λ number place. otherwise) f ≡ a → (s : Site) × (read_of bytes ≡ accepted s) × (f s ≡ a)
    go (accepted s) q e = (s, q, e)
    go (refused number place) q e = absurd (differs e)

pub of_list : {A : Type 0} (list : List ℕ) (n : ℕ) (otherwise b a : A) → (otherwise ≡ a → ⊥) → of_length list n otherwise b ≡ a → (length list ≡ n) × (b ≡ a)
unfolding of_length
of_list {A = A} list n otherwise b a differs e = go (eqb (length list) n) refl e
  where
    go : (t : Bool) → eqb (length list) n ≡ t → cond (not t) otherwise b ≡ a → (length list ≡ n) × (b ≡ a)
    go true q e = (eqb-true _ _ q, e)
    go false q e = absurd (differs e)

-- With 576 counters, 1 and 14 do not refuse a call on a site that passes.
pub unfaulted : (s : Site) → passes_of s ≡ true → (cs : List ℕ) → length cs ≡ 576 → call_fault s cs ≡ 0
unfaulted s sound cs counted = (call_when s cs).1 (counted, (passes_sound s).0 sound)
