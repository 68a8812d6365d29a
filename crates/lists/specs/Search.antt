-- Searches over whole numbers, each written as the plain loop that it is. `p` is any test.
use Rattle.std.specs.Prelude.{ℕ, zero, suc, ◌+◌, ◌-◌, Bool, true, false, cond, ltb, Option, Some, None}

-- The largest k from n down to 1 with p k, and 0 where none of them has it.
unfoldable pub last : (ℕ → Bool) → ℕ → ℕ
last p zero = zero
last p (suc n) = cond (p (suc n)) (suc n) (last p n)

-- The smallest k with p k among the r numbers from c on, and c + r where none of them has it.
unfoldable pub first : (ℕ → Bool) → ℕ → ℕ → ℕ
first p zero c = c
first p (suc r) c = cond (p c) c (first p r (c + 1))

-- The smallest k with p k from c on and below n, and n where there is none; c where c is not below n.
abbrev pub first_in : (ℕ → Bool) → ℕ → ℕ → ℕ
first_in p n c = first p (n - c) c

-- Whether p k holds for one of the r numbers from k on.
unfoldable pub any : (ℕ → Bool) → ℕ → ℕ → Bool
any p zero k = false
any p (suc r) k = cond (p k) true (any p r (k + 1))

-- What a search that ends with n where there is none has found.
abbrev pub some_below : ℕ → ℕ → Option ℕ
some_below n k = cond (ltb k n) (Some k) None

-- A number that is 0 where there is none.
abbrev pub some_of : ℕ → Option ℕ
some_of zero = None
some_of (suc k) = Some (suc k)
