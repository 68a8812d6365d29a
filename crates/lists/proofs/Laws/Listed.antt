-- Lists of one number, and lists made of the values of a function.
use Prim.Native.Nat.{ℕ, zero, suc, ◌+◌, ◌≤◌, ◌<◌}
use mathlib.Core.Path.{◌≡◌, refl, ap}
use mathlib.Core.List.{List, ◌∷◌}
use lib.ListN.{length, get_or, take, replicate}
use native.Mathlib.Nat.{add-zero}
use native.Mathlib.Omega.{arith}
use Rattle.lists.specs.Lists.{listed}

pub get_or_replicated : (n i x : ℕ) → get_or (replicate n x) i x ≡ x
get_or_replicated zero i x = refl
get_or_replicated (suc n) zero x = refl
get_or_replicated (suc n) (suc i) x = get_or_replicated n i x

pub take_replicate : (n m x : ℕ) → n ≤ m → take n (replicate m x) ≡ replicate n x
take_replicate zero m x l = refl
take_replicate (suc n) zero x l = absurd (omega arith)
take_replicate (suc n) (suc m) x l = ap (λ (xs : List ℕ). x ∷ xs) (take_replicate n m x (omega arith))

pub length_listed : (f : ℕ → ℕ) (r i : ℕ) → length (listed f r i) ≡ r
unfolding listed
length_listed f zero i = refl
length_listed f (suc r) i = ap suc (length_listed f r (i + 1))

pub get_or_listed : (f : ℕ → ℕ) (r i k : ℕ) → k < r → get_or (listed f r i) k 0 ≡ f (i + k)
unfolding listed
get_or_listed f zero i k l = absurd (omega arith)
get_or_listed f (suc r) i zero l = rw add-zero
get_or_listed f (suc r) i (suc k) l = let e : i + suc k ≡ i + 1 + k = omega arith in rw e (get_or_listed f r (i + 1) k (omega arith))
