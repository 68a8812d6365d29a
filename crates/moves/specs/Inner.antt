-- What the inner functions tell their callers. The public promises cite none of this.
use Rattle.std.specs.Prelude.{ℕ, ◌+◌, ◌≤◌, ◌<◌, ◌≡◌, true, cond, List, length, get_or}
use Rattle.lists.specs.Lists.{total}
use Rattle.site.specs.declared.Site.{Site}
use Rattle.tree.specs.Tree.{of_link, route}
use Rattle.reservations.specs.Reservations.{periods_judged, width_at}
use Rattle.schedule.specs.Schedule.{link_sends}
use Rattle.counters.specs.Blocks.{cells_of}
use Rattle.queues.specs.Cells.{Hop}
use Rattle.moves.specs.Hops.{hops_along}

-- What stands for the link of a node in slot t: its period if it sends, else 0.
unfoldable pub period_in : Site → ℕ → ℕ → ℕ
period_in s t node = cond (link_sends s node t) (of_link (periods_judged s) node) 0

-- A list with this for every link that a site can have.
pub record PeriodsIn (s : Site) (t : ℕ) (sending : List ℕ) : Type 0 where
  pub each : (node : ℕ) → node ≤ 63 → of_link sending node ≡ period_in s t node

-- A link by such a list: in the one slot that the list is for, it moves up to the rate times its entry.
abbrev pub in_slot : List ℕ → ℕ → ℕ → Hop
in_slot sending rate node = record { sends = λ t. true; width = width_at sending rate node; gap = 0 }

-- The links from an entry node up, by such a list.
abbrev pub hops_in : List ℕ → List ℕ → ℕ → ℕ → List Hop
hops_in parents sending rate entry = hops_along (in_slot sending rate) (route parents entry)

-- Nine cells that an arrival can join without leaving 32 bits.
pub record Movable (cells : List ℕ) (arrival : ℕ) : Type 0 where
  pub nine : length cells ≡ 9
  pub fits : total cells + arrival ≤ 4294967295

-- Every live flow's cells are such.
pub record AllMovable (states counters arrivals : List ℕ) : Type 0 where
  pub counted : length counters ≡ 576
  pub listed : length arrivals ≡ 64
  pub each : (n : ℕ) → n < 64 → get_or states n 0 ≡ 1 → Movable (cells_of n counters) (get_or arrivals n 0)
