-- Words of printed text as bytes.
use Rattle.std.specs.Prelude.{ℕ, zero, suc, ◌+◌, List, [], ◌∷◌}
use Prim.Native.Char.{code}
use Prim.Native.String.{String, len, char_at}

-- The codes of r characters of a text from the one at index i on; printed words are in ASCII, where each takes one byte.
abbrev pub codes : String → ℕ → ℕ → List ℕ
codes s zero i = []
codes s (suc r) i = code (char_at s i) ∷ codes s r (i + 1)

-- The bytes of a text.
abbrev pub letters : String → List ℕ
letters s = codes s (len s) 0
