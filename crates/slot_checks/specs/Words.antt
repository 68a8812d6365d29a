-- 19 and 20 in words. The laws of proofs/Laws.antt say that the definitions mean this.
use Rattle.std.specs.Prelude.{ℕ, ◌+◌, ◌<◌, ◌≡◌, true, false, List, get_or}
use Rattle.lists.specs.Lists.{total}
use Rattle.site.specs.declared.Site.{Site}
use Rattle.site.specs.Sites.{live}
use Rattle.counters.specs.Blocks.{cells_of}

-- 01, 19: flow n is live, and its nine cells and its arrival sum to more than 4,294,967,295.
abbrev pub Overflows : Site → List ℕ → List ℕ → ℕ → Type 0
Overflows s counters arrivals n = (live s n ≡ true) × (4294967295 < total (cells_of n counters) + get_or arrivals n 0)

-- 01, 20: number n is not live, and there are arrivals for it.
abbrev pub Unexpected : Site → List ℕ → ℕ → Type 0
Unexpected s arrivals n = (live s n ≡ false) × (0 < get_or arrivals n 0)

-- Of the 64 flow numbers, n is the lowest with P.
pub record Lowest (P : ℕ → Type 0) (n : ℕ) : Type 0 where
  pub few : n < 64
  pub here : P n
  pub lower : (k : ℕ) → k < n → P k → ⊥
