-- Bytes that are put into a borrowed space behind those that are taken.
use Rattle.std.specs.Prelude.{ℕ, ◌+◌, cond, List, ◌++◌, leb, length, take, drop}

-- A space in which the first `at` bytes are taken, with a piece behind these. Without room for all of it the space stays, and the number of bytes taken is
-- one more than it has: so nothing finds room after that.
unfoldable pub put : ℕ × List ℕ → List ℕ → ℕ × List ℕ
put (at, out) piece =
    cond (leb (at + length piece) (length out)) (at + length piece, take at out ++ piece ++ drop (at + length piece) out) (length out + 1, out)
