-- The links of a flow's route as its packets meet them.
use Rattle.std.specs.Prelude.{ℕ, List, [], ◌∷◌, get_or}
use Rattle.site.specs.declared.Site.{Site}
use Rattle.tree.specs.Tree.{of_link}
use Rattle.reservations.specs.Reservations.{periods_judged, route_of, width_at}
use Rattle.schedule.specs.Schedule.{link_sends}
use Rattle.queues.specs.Cells.{Hop}

-- How a site's links are served: the hop that the link of a node is for a flow of this rate.
abbrev pub Service : Type 0
Service = Site → ℕ → ℕ → Hop

-- By the site's own schedule: slot rule 6, the width of 'Reservations' (rate × period from 02, U2, on), and the period.
abbrev pub own : Service
own s rate node = record { sends = link_sends s node; width = width_at (periods_judged s) rate node; gap = of_link s.periods node }

-- The hops of these links.
unfoldable pub hops_along : (ℕ → Hop) → List ℕ → List Hop
hops_along hop [] = []
hops_along hop (node ∷ nodes) = hop node ∷ hops_along hop nodes

-- 01, the list of demand 3: the links that flow n goes over, its entry node's first.
unfoldable pub hops_of : Service → Site → ℕ → List Hop
hops_of v s n = hops_along (v s (get_or s.rates n 0)) (route_of s n)
