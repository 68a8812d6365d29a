-- The bytes of a LINK read back. The module named here has the lemmas.
pub mod Write
use Prim.Native.Nat.{ℕ, ◌+◌, ◌<◌}
use mathlib.Core.Path.{◌≡◌}
use mathlib.Core.List.{List, ◌++◌}
use lib.ListN.{get_or, drop}
use native.Mathlib.Omega.{arith}
use Rattle.schedule_check.specs.declared.Schedule.{Schedule}
use Rattle.format.specs.Bytes.{number_at, bytes_of}
use Rattle.format.proofs.Laws.{number_bytes, number_one, byte_at, left_at}
use Rattle.schedule_writer.specs.Write.{link_bytes}

-- The bytes of a LINK, wherever they stand, read back as its node, offset and period, for any values of 16 bits.
pub link_read : (s : Schedule) (i : ℕ) → get_or s.offsets i 0 < 65536 → get_or s.periods i 0 < 65536
    → (bytes rest : List ℕ) (at : ℕ) → drop at bytes ≡ link_bytes s i ++ rest
    → (number_at 1 bytes (at + 1) ≡ i + 1) × (number_at 2 bytes (at + 2) ≡ get_or s.offsets i 0) × (number_at 2 bytes (at + 4) ≡ get_or s.periods i 0)
unfolding link_bytes bytes_of
link_read s i o p bytes rest at e = (
  omega (arith, number_one bytes (at + 1), byte_at bytes at _ 1 e),
  number_bytes 2 (get_or s.offsets i 0) bytes (bytes_of 2 (get_or s.periods i 0) ++ rest) (at + 2) (omega arith) (left_at bytes at _ 2 e),
  number_bytes 2 (get_or s.periods i 0) bytes rest (at + 4) (omega arith) (left_at bytes at _ 4 e),
)
