-- Bytes in words.
use Rattle.std.specs.Prelude.{ℕ, ◌<◌, List, get_or}

-- Every number of the list is one of 8 bits.
abbrev pub Bytes : List ℕ → Type 0
Bytes bytes = (i : ℕ) → get_or bytes i 0 < 256
