-- Sums over the numbers below a bound.
use Prim.Native.Nat.{ℕ, zero, suc, ◌+◌, ◌<◌}
use mathlib.Core.Path.{◌≡◌, refl}
use mathlib.Core.Logic.{◌⊎◌, inl, inr}
use native.Mathlib.Nat.{eq-or-lt_of_le}
use native.Mathlib.Numerals.{add-one}
use native.Mathlib.Omega.{arith}
use Rattle.lists.specs.Lists.{sum_to}

-- A sum over numbers.
pub sum_more : (f : ℕ → ℕ) (k : ℕ) → sum_to f (k + 1) ≡ sum_to f k + f k
unfolding sum_to
sum_more f k = rw add-one

-- Sums of terms that agree where the sum looks are equal, and where they agree at all numbers but n the sums differ as the terms at n do.
module _ (f g : ℕ → ℕ) where
  sum_ext : (k : ℕ) → ((i : ℕ) → i < k → f i ≡ g i) → sum_to f k ≡ sum_to g k
  unfolding sum_to
  sum_ext zero h = refl
  sum_ext (suc k) h = rw (h k (omega arith), sum_ext k (λ i l. h i (omega arith)))

  pub sum_except : (n k : ℕ) → ((i : ℕ) → (i ≡ n → ⊥) → f i ≡ g i) → n < k → sum_to f k + g n ≡ sum_to g k + f n
  unfolding sum_to
  sum_except n zero h l = absurd (omega arith)
  sum_except n (suc k) h l = go (eq-or-lt_of_le l) (sum_except n k h)
    where
      go : (suc n ≡ suc k) ⊎ (suc n < suc k) → (n < k → sum_to f k + g n ≡ sum_to g k + f n) → (sum_to f k + f k) + g n ≡ (sum_to g k + g k) + f n
      go (inl e) ih = let w : n ≡ k = omega arith in rw (w, sum_ext k (λ i m. h i (λ z. omega arith))) (omega arith)
      go (inr m) ih = rw (h k (λ z. omega arith)) (omega (arith, ih (omega arith)))
