-- Bytes that a line gives in hexadecimal.
use Rattle.std.specs.Prelude.{ℕ, ◌+◌, ◌-◌, ◌*◌, min, cond, List, [], ◌∷◌, ◌++◌, ltb, leb, length, take, drop, set}

-- The value of a digit, 0 to 9 or A to F in ASCII, and 16 of any other byte.
unfoldable pub hex_value : ℕ → ℕ
hex_value c = cond (ltb c 48) 16 (cond (leb c 57) (c - 48) (cond (ltb c 65) 16 (cond (leb c 70) (c - 55) 16)))

-- The values of the digits of a line, in their order.
unfoldable pub hex_values : List ℕ → List ℕ
hex_values [] = []
hex_values (c ∷ cs) = cond (ltb (hex_value c) 16) (hex_value c ∷ hex_values cs) (hex_values cs)

-- A byte of each two; one that is left over at the end makes none.
unfoldable pub paired : List ℕ → List ℕ
paired [] = []
paired (high ∷ []) = []
paired (high ∷ low ∷ rest) = (high * 16 + low) ∷ paired rest

-- The bytes that a line gives.
unfoldable pub hex_bytes : List ℕ → List ℕ
hex_bytes line = paired (hex_values line)

-- A space whose first n bytes are taken, with a byte behind these if there is room.
unfoldable pub hex_stored : ℕ × List ℕ → ℕ → ℕ × List ℕ
hex_stored (n, out) byte = cond (ltb n (length out)) (n + 1, set out n byte) (n, out)

-- A space with as many of the bytes at its front as it has room for, and how many these are.
unfoldable pub filled : List ℕ → List ℕ → ℕ × List ℕ
filled bytes out = (min (length bytes) (length out), take (length out) bytes ++ drop (length bytes) out)
