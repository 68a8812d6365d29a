-- Items stored one after the other, and the answers of a writer.
use Prim.Native.Nat.{ℕ, zero, suc, ◌+◌, ◌-◌, ◌*◌, ◌≤◌, ◌<◌}
use mathlib.Core.Path.{◌≡◌, refl, sym, ◌∙◌, ap}
use mathlib.Core.Bool.{Bool, true, false, not}
use mathlib.Core.List.{List, [], ◌∷◌, ◌++◌}
use lib.ListN.{length, set, length-append}
use lib.Seq.{sets, length-sets, sets-eq}
use borrow.Author.Tests.{lt-ltb, le-ltb, le-leb, not-false}
use native.Mathlib.Nat.{zero-add, mul-suc}
use native.Mathlib.Omega.{arith}
use Rattle.rulings.specs.Outcome.{Outcome, accepted, refused}
use Rattle.slices.specs.Written.{written, encoded, handed}
use Rattle.lists.specs.Lists.{joined}
use Rattle.lists.proofs.Laws.Items.{joined_next, joined_zero}

pub sets_append : (d : List ℕ) (at : ℕ) (xs ys : List ℕ) → sets d at (xs ++ ys) ≡ sets (sets d at xs) (at + length xs) ys
sets_append d at [] ys = let e : at + 0 ≡ at = omega arith in rw e
sets_append d at (x ∷ xs) ys =
    let e : at + suc (length xs) ≡ suc at + length xs = omega arith in
    rw e (sets_append (set d at x) (suc at) xs ys)

-- n items are to be stored from `start` on, and those below i have been stored up to index `at`.
pub record Passed (bytes : ℕ → List ℕ) (n start i at : ℕ) : Type 0 where
  pub most : i ≤ n
  pub place : at + length (joined bytes (n - i) i) ≡ start + length (joined bytes n 0)

-- No item is left.
none : (bytes : ℕ → List ℕ) (n i : ℕ) → n ≤ i → joined bytes (n - i) i ≡ []
none bytes n i l = joined_zero bytes (n - i) i (omega arith)

module _ (bytes : ℕ → List ℕ) (n start : ℕ) where
  pub passed_start : Passed bytes n start 0 start
  passed_start = let e : n - 0 ≡ n = omega arith in record { most = omega arith; place = rw e }

  module _ (i at : ℕ) (p : Passed bytes n start i at) where
    passed_next : i < n → at + length (bytes i) + length (joined bytes (n - (i + 1)) (i + 1)) ≡ start + length (joined bytes n 0)
    passed_next l = omega (arith, p.place, ap length (joined_next bytes n i l) ∙ length-append (bytes i) (joined bytes (n - (i + 1)) (i + 1)))

    -- The next item fits where all fit.
    pub passed_room : i < n → at + length (bytes i) ≤ start + length (joined bytes n 0)
    passed_room l = omega (arith, passed_next l)

    pub passed_more : (m : ℕ) → i < n → m ≡ at + length (bytes i) → Passed bytes n start (i + 1) m
    passed_more m l e = record { most = omega arith; place = rw e (passed_next l) }

    pub passed_end : n ≤ i → at ≡ start + length (joined bytes n 0)
    passed_end l = omega (arith, p.place, ap length (none bytes n i l))

-- And `out` is what the list d has become.
pub record Stored (bytes : ℕ → List ℕ) (n start : ℕ) (d : List ℕ) (i at : ℕ) (out : List ℕ) : Type 0 where
  pub passed : Passed bytes n start i at
  pub long : length out ≡ length d
  pub stores : sets out at (joined bytes (n - i) i) ≡ sets d start (joined bytes n 0)

module _ (bytes : ℕ → List ℕ) (n start : ℕ) (d : List ℕ) where
  pub stored_start : Stored bytes n start d 0 start d
  stored_start = let e : n - 0 ≡ n = omega arith in record { passed = passed_start bytes n start; long = refl; stores = rw e }

  module _ (i at : ℕ) (out : List ℕ) (s : Stored bytes n start d i at out) where
    pub stored_more : (b new : List ℕ) (m : ℕ) → i < n → b ≡ bytes i → new ≡ sets out at b → m ≡ at + length b
        → Stored bytes n start d (i + 1) m new
    stored_more b new m l e q h = record {
      passed = passed_more bytes n start i at s.passed m l (h ∙ ap (λ (x : List ℕ). at + length x) e);
      long = rw q (length-sets out at b ∙ s.long);
      stores = rw (q, h, e, ← sets_append out at (bytes i) (joined bytes (n - (i + 1)) (i + 1)), ← joined_next bytes n i l) s.stores;
    }

    -- The next item fits where all fit.
    pub stored_room : (b : List ℕ) → i < n → b ≡ bytes i → at + length b ≤ start + length (joined bytes n 0)
    stored_room b l e = rw e (passed_room bytes n start i at s.passed l)

    pub stored_end : n ≤ i → (out ≡ sets d start (joined bytes n 0)) × (at ≡ start + length (joined bytes n 0))
    stored_end l = (ap (sets out at) (sym (none bytes n i l)) ∙ s.stores, passed_end bytes n start i at s.passed l)

-- Items of one size.
pub sized_each : (bytes : ℕ → List ℕ) (size : ℕ) → ((i : ℕ) → length (bytes i) ≡ size) → (r i : ℕ) → length (joined bytes r i) ≡ size * r
unfolding joined
sized_each bytes size h zero i = omega arith
sized_each bytes size h (suc r) i =
    rw mul-suc (omega (arith, length-append (bytes i) (joined bytes r (i + 1)), h i, sized_each bytes size h r (i + 1)))

-- A writer's answers: the slice is too short, or all bytes are stored from its start on.
module _ (bytes out : List ℕ) (n : ℕ) (size : n ≡ length bytes) where
  pub written_short : length out < n → (refused 1 0, out) ≡ written bytes out
  unfolding written
  written_short l = simp (lt-ltb (length out) (length bytes) (omega arith))

  pub written_all : (new : List ℕ) → n ≤ length out → new ≡ sets out 0 bytes → (accepted n, new) ≡ written bytes out
  unfolding written
  written_all new l q =
      rw (q, size, le-ltb (length out) (length bytes) (omega arith), sets-eq bytes out 0 (omega arith), zero-add (length bytes))

-- The answers with it. p is the check, and t what it came to.
module _ (p t : Bool) (is : t ≡ p) (bytes out : List ℕ) where
  pub handed_passed : not t ≡ false → (a : Outcome ℕ × List ℕ) → a ≡ written bytes out → a ≡ handed p bytes out
  unfolding handed
  handed_passed e a q = q ∙ rw (← is, not-false t e)

  -- Nothing with more than 63 links passes.
  pub handed_well : (links : ℕ) → (p ≡ true → links ≤ 63) → not t ≡ false → (a : Outcome ℕ × List ℕ) → a ≡ encoded links bytes out
      → a ≡ handed p bytes out
  unfolding encoded handed
  handed_well links few e a q = handed_passed e a (q ∙ rw (le-leb _ _ (few (sym is ∙ not-false t e))))
