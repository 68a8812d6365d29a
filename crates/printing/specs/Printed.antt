-- How many bytes of a text are handed over.
use Rattle.std.specs.Prelude.{ℕ, cond, leb}

-- The first `size` bytes of a text that has `room`; none where it has fewer.
unfoldable pub front : ℕ → ℕ → ℕ
front size room = cond (leb size room) size 0
