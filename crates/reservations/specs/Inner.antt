-- What the inner functions tell their callers. The public promises cite none of this but `first_full` and `FaultsOf`, which stand for 12, 13 and 17 in calls that
-- are no operations of 01.
use Rattle.std.specs.Prelude.{ℕ, ◌+◌, ◌-◌, ◌≡◌, cond, List, [], ◌∷◌, ltb, get_or, set, Option, None, Some}
use Rattle.std.specs.Option.{option_or}
use Rattle.lists.specs.Search.{some_below}
use Rattle.site.specs.declared.Site.{Site}
use Rattle.site.specs.Sites.{used}
use Rattle.tree.specs.Tree.{of_link}
use Rattle.reservations.specs.Reservations.{width_at, loads_of, first_over, first_late}

-- The loads with a flow's width added on each link of its route.
unfoldable pub carried : List ℕ → ℕ → List ℕ → List ℕ → List ℕ
carried periods rate [] loads = loads
carried periods rate (m ∷ ms) loads = carried periods rate ms (set loads (m - 1) (get_or loads (m - 1) 0 + width_at periods rate m))

-- The late flow found so far, with flow n judged by its deadline and the sum of its periods.
abbrev pub found_with : Option ℕ → ℕ → ℕ → ℕ → Option ℕ
found_with found n deadline sum = option_or found (cond (ltb deadline sum) (Some n) None)

-- 01, 17 by a list of what the links carry: the first link of a route, going up, that has no room for the width of this rate, 0 where there is none. With the
-- loads of a site it is `first_unfit`: the law `full_unfit`.
unfoldable pub first_full : List ℕ → List ℕ → List ℕ → ℕ → List ℕ → ℕ
first_full capacities loads periods rate [] = 0
first_full capacities loads periods rate (m ∷ ms) =
    cond (ltb (of_link capacities m) (of_link loads m + width_at periods rate m)) m (first_full capacities loads periods rate ms)

-- The sums of the widths on all links of a site, and its first late flow.
pub record ReservedAs (s : Site) (loads : List ℕ) (late : Option ℕ) : Type 0 where
  pub sums : loads ≡ loads_of s
  pub flow : late ≡ some_below 64 (first_late s)

-- With its first link that has widths above its capacity.
pub record FaultsOf (s : Site) (over late : Option ℕ) (loads : List ℕ) : Type 0 where
  pub link : over ≡ some_below (used s.links) (first_over s)
  pub flow : late ≡ some_below 64 (first_late s)
  pub sums : loads ≡ loads_of s
