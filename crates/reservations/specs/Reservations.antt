-- 01, Reservations, and 02, U2: what live flows keep on the links of their routes.
use Rattle.std.specs.Prelude.{ℕ, ◌+◌, ◌*◌, Bool, cond, ◌&&◌, List, [], ◌∷◌, ltb, get_or}
use Rattle.lists.specs.Search.{first}
use Rattle.site.specs.declared.Site.{Site}
use Rattle.site.specs.Sites.{used, live}
use Rattle.tree.specs.Tree.{of_link, route, has}
use Rattle.lists.specs.Lists.{sum_to, listed}

-- 02, U2: widths and the sums of 12, 13, 17 and 18 go by the periods, the gaps that links are served within.
unfoldable pub periods_judged : Site → List ℕ
periods_judged s = s.periods

-- The route of the flow with number n.
unfoldable pub route_of : Site → ℕ → List ℕ
route_of s n = route s.parents (get_or s.entries n 0)

-- 01, Reservations, and 02, U2: the width on the link of node m, rate × period, of a flow with this rate.
unfoldable pub width_at : List ℕ → ℕ → ℕ → ℕ
width_at periods rate m = rate * of_link periods m

-- What flow n keeps of the link of node m.
unfoldable pub width_on : Site → ℕ → ℕ → ℕ
width_on s m n = cond (live s n && has m (route_of s n)) (width_at (periods_judged s) (get_or s.rates n 0) m) 0

-- The sum of the widths on the link of node m.
unfoldable pub load : Site → ℕ → ℕ
load s m = sum_to (width_on s m) 64

-- The sums of the widths on all 63 links, the one of node n's link at index n - 1.
unfoldable pub loads_of : Site → List ℕ
loads_of s = listed (λ i. load s (i + 1)) 63 0

-- 01, 12: the link at index i has widths above its capacity, and the first such index.
unfoldable pub over : Site → ℕ → Bool
over s i = ltb (get_or s.capacities i 0) (load s (i + 1))

unfoldable pub first_over : Site → ℕ
first_over s = first (over s) (used s.links) 0

-- 01, 17: the width of a flow with this rate does not fit on the link of node m beside the live ones.
unfoldable pub unfit : Site → ℕ → ℕ → Bool
unfit s rate m = ltb (of_link s.capacities m) (load s m + width_at (periods_judged s) rate m)

-- 01, 17: the first such link of a route going up, 0 where there is none.
unfoldable pub first_unfit : Site → ℕ → List ℕ → ℕ
first_unfit s rate [] = 0
first_unfit s rate (m ∷ ms) = cond (unfit s rate m) m (first_unfit s rate ms)

-- The sum of a list of links over a route.
unfoldable pub along : List ℕ → List ℕ → ℕ
along xs [] = 0
along xs (m ∷ ms) = of_link xs m + along xs ms

-- 01, 13: the periods on a live flow's route sum to more than its deadline, and the first such flow.
unfoldable pub late : Site → ℕ → Bool
late s n = live s n && ltb (get_or s.deadlines n 0) (along (periods_judged s) (route_of s n))

unfoldable pub first_late : Site → ℕ
first_late s = first (late s) 64 0

-- 01, the list of demand 3: G, the sum of the periods on the route (the bound that is printed).
unfoldable pub delay_bound : Site → ℕ → ℕ
delay_bound s n = along s.periods (route_of s n)
