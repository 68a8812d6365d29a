-- What is proved of readings without the writers: the first 1,024 bytes settle every one. The module named here holds the lemmas; crate `plan` has what
-- readings mean.
pub mod Commands
use Prim.Native.Nat.{ℕ, ◌≤◌}
use mathlib.Core.Path.{◌≡◌, ap}
use mathlib.Core.List.{List}
use lib.ListN.{take}
use Rattle.plan_reader.specs.Read.{judge_form, read_of}
use Rattle.plan_commands.proofs.Laws.Readings.{decode_first}

-- No input passes more than 63 NODEs, 64 FLOWs and END.
pub read_first : (bytes : List ℕ) (n : ℕ) → 1024 ≤ n → read_of (take n bytes) ≡ read_of bytes
unfolding read_of
read_first bytes n h = ap judge_form (decode_first bytes n h)
