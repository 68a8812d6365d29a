-- Lists of bytes and of numbers as text.
use Rattle.std.specs.Prelude.{ℕ, List, [], ◌∷◌, ◌++◌}
use Rattle.text.specs.Letters.{letters}
use Rattle.text.specs.Decimal.{decimal}

-- The pieces of each number of a list, one after the other.
unfoldable pub each : (ℕ → List (List ℕ)) → List ℕ → List (List ℕ)
each item [] = []
each item (x ∷ xs) = item x ++ each item xs

unfoldable pub spaced_decimal : ℕ → List (List ℕ)
spaced_decimal n = letters " " ∷ decimal n ∷ []
