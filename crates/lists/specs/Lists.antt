-- Sums, smallest and largest numbers, lists joined or made of items, and two lists compared, each written as the plain loop that it is.
use Rattle.std.specs.Prelude.{ℕ, zero, suc, ◌+◌, min, max, Bool, true, false, ◌&&◌, List, [], ◌∷◌, ◌++◌, eqb}

-- Two lists are equal.
unfoldable pub same : List ℕ → List ℕ → Bool
same [] [] = true
same [] (y ∷ ys) = false
same (x ∷ xs) [] = false
same (x ∷ xs) (y ∷ ys) = eqb x y && same xs ys

-- The sum of a list.
unfoldable pub total : List ℕ → ℕ
total [] = 0
total (x ∷ xs) = x + total xs

-- The largest number of a list, 0 of the empty one.
unfoldable pub largest : List ℕ → ℕ
largest [] = 0
largest (x ∷ xs) = max x (largest xs)

-- The smallest number of x and the list.
unfoldable pub least : ℕ → List ℕ → ℕ
least x [] = x
least x (y ∷ ys) = least (min x y) ys

-- The smallest number of a list, 0 of the empty one.
unfoldable pub smallest : List ℕ → ℕ
smallest [] = 0
smallest (x ∷ xs) = least x xs

-- The items of the r numbers from i on, one after the other.
unfoldable pub joined : {A : Type 0} → (ℕ → List A) → ℕ → ℕ → List A
joined item zero i = []
joined item (suc r) i = item i ++ joined item r (i + 1)

-- The values of f at the r numbers from i on.
unfoldable pub listed : (ℕ → ℕ) → ℕ → ℕ → List ℕ
listed f zero i = []
listed f (suc r) i = f i ∷ listed f r (i + 1)

-- The sum of f over the numbers below k.
unfoldable pub sum_to : (ℕ → ℕ) → ℕ → ℕ
sum_to f zero = 0
sum_to f (suc k) = sum_to f k + f k
