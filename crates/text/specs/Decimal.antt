-- Whole numbers as decimal digits, and what digits say.
use Rattle.std.specs.Prelude.{ℕ, zero, suc, ◌+◌, ◌-◌, ◌*◌, ◌/◌, ◌%◌, Bool, true, false, cond, ◌&&◌, List, [], ◌∷◌, ◌++◌, ltb, leb}

-- The digits of n, for which k steps are enough: the last digit stands behind those of n / 10.
unfoldable pub digits_by : ℕ → ℕ → List ℕ
digits_by zero n = (48 + n) ∷ []
digits_by (suc k) n = cond (ltb n 10) ((48 + n) ∷ []) (digits_by k (n / 10) ++ ((48 + n % 10) ∷ []))

-- The decimal digits of n in ASCII: n steps are enough, since each makes n smaller.
unfoldable pub decimal : ℕ → List ℕ
decimal n = digits_by n n

-- What digits say: each one more makes ten times as much of those before it.
unfoldable pub value_from : ℕ → List ℕ → ℕ
value_from v [] = v
value_from v (c ∷ cs) = value_from (v * 10 + (c - 48)) cs

unfoldable pub value_of : List ℕ → ℕ
value_of word = value_from 0 word

unfoldable pub is_digit : ℕ → Bool
is_digit c = leb 48 c && leb c 57

unfoldable pub all_digits : List ℕ → Bool
all_digits [] = true
all_digits (c ∷ cs) = is_digit c && all_digits cs

unfoldable pub given : List ℕ → Bool
given [] = false
given (c ∷ cs) = true

-- A word that is a number of at most `most`: digits alone, one at least.
unfoldable pub is_number : List ℕ → ℕ → Bool
is_number word most = given word && all_digits word && leb (value_of word) most
