-- The bytes that are lent to a writer, stored one after the other.
use Prim.Native.Nat.{ℕ, zero, suc, ◌+◌, ◌-◌, ◌≤◌, ◌<◌}
use mathlib.Core.Path.{◌≡◌, refl, ◌∙◌, ap}
use mathlib.Core.List.{List, [], ◌∷◌, ◌++◌, append-nil}
use lib.ListN.{length, set, replicate}
use lib.Seq.{set_at, append_snoc}
use native.Mathlib.Omega.{arith}
use Rattle.lists.specs.Lists.{joined}
use Rattle.lists.proofs.Laws.Items.{joined_more}
use Rattle.testlib_text.specs.Printed.{numbered_bytes}

abbrev mark : ℕ → List ℕ
mark i = (100 + i) ∷ []

marks_long : (r i : ℕ) → length (joined mark r i) ≡ r
unfolding joined
marks_long zero i = refl
marks_long (suc r) i = ap (λ (n : ℕ). suc n) (marks_long r (i + 1))

-- The first i bytes are stored, and 0 in place of the others.
pub record Marked (i : ℕ) (out : List ℕ) : Type 0 where
  pub upto : i ≤ 64
  pub is : out ≡ joined mark i 0 ++ replicate (64 - i) 0

pub marked_start : Marked 0 (replicate 64 0)
unfolding joined
marked_start = record { upto = omega arith; is = refl }

pub marked_more : (i : ℕ) (out : List ℕ) → Marked i out → i < 64 → Marked (i + 1) (set out i (100 + i))
marked_more i out m l = record {
  upto = omega arith;
  is = let e : 64 - i ≡ suc (64 - (i + 1)) = omega arith in
      ap (λ (l : List ℕ). set l i (100 + i)) m.is
      ∙ rw (e, joined_more mark i)
      (set_at (joined mark i 0) 0 (replicate (64 - (i + 1)) 0) (100 + i) i (marks_long i 0) ∙ simp append_snoc);
}

pub marked_end : (i : ℕ) (out : List ℕ) → Marked i out → 64 ≤ i → out ≡ numbered_bytes
unfolding numbered_bytes
marked_end i out m l = let e : i ≡ 64 = omega (arith, m.upto) in (rw e at m.is) ∙ append-nil (joined mark 64 0)

pub ruleset marking = (marked_start, marked_more, marked_end)
