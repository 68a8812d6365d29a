-- Bytes as hexadecimal digits.
use Rattle.std.specs.Prelude.{ℕ, ◌+◌, ◌/◌, ◌%◌, cond, List, [], ◌∷◌, ltb}
use Rattle.text.specs.Letters.{letters}
use Rattle.text.specs.Listed.{each}

-- A digit below 16, in capitals; and the two of a byte.
unfoldable pub hex_digit : ℕ → ℕ
hex_digit d = cond (ltb d 10) (48 + d) (55 + d)

unfoldable pub hex_of : ℕ → List ℕ
hex_of b = hex_digit (b / 16) ∷ hex_digit (b % 16) ∷ []

-- A byte, or a number, with a space before it.
unfoldable pub spaced_hex : ℕ → List (List ℕ)
spaced_hex b = letters " " ∷ hex_of b ∷ []

-- Bytes as 01 shows them, with a space between two.
unfoldable pub hex_text : List ℕ → List (List ℕ)
hex_text [] = []
hex_text (b ∷ bs) = hex_of b ∷ each spaced_hex bs
