-- 01, One slot: what one slot leaves of all 576 counters, on a site whose check 14 is not asked.
use Rattle.std.specs.Prelude.{ℕ, cond, List, get_or}
use Rattle.rulings.specs.Outcome.{Ruling, settled}
use Rattle.lists.specs.Lists.{joined}
use Rattle.site.specs.declared.Site.{Site}
use Rattle.site.specs.Sites.{live}
use Rattle.counters.specs.Blocks.{cells_of}
use Rattle.queues.specs.Cells.{step}
use Rattle.moves.specs.Hops.{Service, hops_of}
use Rattle.slot_checks.specs.Checks.{advance_ruling}

-- 01, One slot: flow n's nine cells after slot t. Those of a number that is not live stay as they are.
unfoldable pub cells_after : Service → Site → List ℕ → List ℕ → ℕ → ℕ → List ℕ
cells_after v s counters arrivals t n =
    cond (live s n) (step (hops_of v s n) t (get_or arrivals n 0) (cells_of n counters)) (cells_of n counters)

-- 01: a refused call leaves the counters as they were, whatever refused it.
unfoldable pub recounted : Ruling → List ℕ → List ℕ → Ruling × List ℕ
recounted r new counters = (r, settled r new counters)

-- The same where check 14 is not asked. On every site that passes it this is the slot: the law `slot_advances`.
unfoldable pub advance_of : Service → Site → List ℕ → List ℕ → ℕ → Ruling × List ℕ
advance_of v s counters arrivals t = recounted (advance_ruling s counters arrivals) (joined (cells_after v s counters arrivals t) 64 0) counters
