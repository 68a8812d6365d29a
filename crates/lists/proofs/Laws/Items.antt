-- Items joined one after the other, whatever they are made of.
use Prim.Native.Nat.{ℕ, zero, suc, ◌+◌, ◌-◌, ◌<◌, ◌≤◌}
use mathlib.Core.Path.{◌≡◌, refl, sym, ◌∙◌, ap}
use mathlib.Core.List.{List, [], ◌++◌, append_assoc, append-nil}
use native.Mathlib.Nat.{zero-add, suc-add}
use native.Mathlib.Omega.{arith}
use Rattle.lists.specs.Lists.{joined}

module _ {A : Type 0} (item : ℕ → List A) where
  -- The next of n items, where some are left.
  pub joined_next : (n i : ℕ) → i < n → joined item (n - i) i ≡ item i ++ joined item (n - (i + 1)) (i + 1)
  unfolding joined
  joined_next n i l = let e : n - i ≡ suc (n - (i + 1)) = omega arith in rw e

  -- a items and b after them.
  pub joined_split : (a b i : ℕ) → joined item (a + b) i ≡ joined item a i ++ joined item b (i + a)
  unfolding joined
  joined_split zero b i = let e : i + 0 ≡ i = omega arith in rw (zero-add, e)
  joined_split (suc a) b i =
      let e : i + suc a ≡ i + 1 + a = omega arith in
      rw (suc-add a b, e, append_assoc) (ap (λ (l : List A). item i ++ l) (joined_split a b (i + 1)))

  -- Those before k, the one at k and those behind it.
  pub joined_at : (n k : ℕ) → k < n → joined item n 0 ≡ joined item k 0 ++ (item k ++ joined item (n - (k + 1)) (k + 1))
  joined_at n k l =
      let all : k + (n - k) ≡ n = omega arith in
      ap (λ (m : ℕ). joined item m 0) (sym all) ∙ joined_split k (n - k) 0 ∙ ap (λ (r : List A). joined item k 0 ++ r) (rw zero-add (joined_next n k l))

  -- One more behind the first k.
  pub joined_more : (k : ℕ) → joined item (k + 1) 0 ≡ joined item k 0 ++ item k
  unfolding joined
  joined_more k = joined_split k 1 0 ∙ rw (zero-add, append-nil)

  -- No items, and items that are empty, leave nothing.
  pub joined_zero : (r i : ℕ) → r ≡ 0 → joined item r i ≡ []
  unfolding joined
  joined_zero r i e = rw e

  pub joined_none : (r i : ℕ) → ((k : ℕ) → i ≤ k → item k ≡ []) → joined item r i ≡ []
  unfolding joined
  joined_none zero i e = refl
  joined_none (suc r) i e = rw (e i (omega arith), joined_none r (i + 1) (λ k l. e k (omega arith)))

pub joined_same : {A : Type 0} (item other : ℕ → List A) (r i : ℕ) → ((k : ℕ) → i ≤ k → k < i + r → item k ≡ other k) → joined item r i ≡ joined other r i
unfolding joined
joined_same item other zero i e = refl
joined_same item other (suc r) i e =
    rw (e i (omega arith) (omega arith), joined_same item other r (i + 1) (λ k lo hi. e k (omega arith) (omega arith)))
