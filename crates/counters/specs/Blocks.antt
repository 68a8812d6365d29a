-- Lists in blocks of one size. A part of a borrowed list is lent on, and comes back between what stood before and behind it.
use Rattle.std.specs.Prelude.{ℕ, ◌+◌, ◌*◌, cond, List, ◌++◌, leb, length, take, drop, replicate}

-- The block of number n, of size k.
unfoldable pub block : {A : Type 0} → ℕ → ℕ → List A → List A
block k n xs = take k (drop (k * n) xs)

-- The list with another block in its place.
unfoldable pub with_block : {A : Type 0} → ℕ → ℕ → List A → List A → List A
with_block k n ys xs = take (k * n) xs ++ (ys ++ drop k (drop (k * n) xs))

-- 01, One slot: of the 576 counters nine belong to each flow number.
unfoldable pub cells_of : ℕ → List ℕ → List ℕ
cells_of n counters = block 9 n counters

unfoldable pub with_cells : ℕ → List ℕ → List ℕ → List ℕ
with_cells n cells counters = with_block 9 n cells counters

unfoldable pub zeros : ℕ → List ℕ
zeros n = replicate n 0

-- 01: the cells of flow n set to 0, in counters that have these cells; others stay as they are.
unfoldable pub cleared : ℕ → List ℕ → List ℕ
cleared n counters = cond (leb (9 * n + 9) (length counters)) (with_cells n (zeros 9) counters) counters
