-- The slots of a site's links: the slot rule under every parent.
use Rattle.std.specs.Prelude.{ℕ, zero, suc, ◌+◌, Bool, true, false, not, cond, ◌&&◌, List, [], ◌∷◌, eqb, ltb, leb, length, get_or, replicate}
use Rattle.lists.specs.Search.{first}
use Rattle.slot_rule.specs.Rule.{sends}
use Rattle.rulings.specs.Outcome.{Outcome, accepted, refused}
use Rattle.slot_rule.specs.Assign.{assigned}
use Rattle.site.specs.declared.Site.{Site}
use Rattle.site.specs.Sites.{used, with_schedule}
use Rattle.tree.specs.Tree.{of_link}
use Rattle.lists.specs.Lists.{listed}

-- A list with x in front, if the test holds.
abbrev pub kept : Bool → ℕ → List ℕ → List ℕ
kept true x xs = x ∷ xs
kept false x xs = xs

-- The gaps wanted by p's children among the r links from index i on, by rising number.
unfoldable pub gaps_from : List ℕ → List ℕ → ℕ → ℕ → ℕ → List ℕ
gaps_from parents gaps p zero i = []
gaps_from parents gaps p (suc r) i = kept (eqb (get_or parents i 0) p) (get_or gaps i 0) (gaps_from parents gaps p r (i + 1))

-- Those of all its children.
unfoldable pub gaps_under : Site → ℕ → List ℕ
gaps_under s p = gaps_from s.parents s.gaps p (used s.links) 0

-- How many of p's children stand before index i.
unfoldable pub rank : Site → ℕ → ℕ → ℕ
rank s p i = length (gaps_from s.parents s.gaps p i 0)

-- What the slot rule assigns to p's children: outcome, offsets, periods.
unfoldable pub assigned_under : Site → ℕ → Outcome ℕ × List ℕ × List ℕ
assigned_under s p = assigned 2 (gaps_under s p) (replicate (length (gaps_under s p)) 0) (replicate (length (gaps_under s p)) 0)

-- The base that the slot rule finds for p's children, 0 where it refuses them.
unfoldable pub base_of : Outcome ℕ → ℕ
base_of (accepted b) = b
base_of (refused number place) = 0

unfoldable pub base_under : Site → ℕ → ℕ
base_under s p = base_of (assigned_under s p).0

-- 01, 11: p has children, and no base fits them.
unfoldable pub crowded : Site → ℕ → Bool
crowded s p = not (eqb (length (gaps_under s p)) 0) && eqb (base_under s p) 0

-- 01, 11 by rising parent: the first crowded one, and one above the last link where there is none.
unfoldable pub first_crowded : Site → ℕ
first_crowded s = first (crowded s) (used s.links + 1) 0

-- The link at index i gets from a list assigned under its parent the entry of its rank. An entry not in use is 0, as is that of a
-- link whose parent is no node of the site.
unfoldable pub entry_assigned : Site → (ℕ → List ℕ) → ℕ → ℕ
entry_assigned s lists i =
    cond (ltb i (used s.links) && leb (get_or s.parents i 0) (used s.links))
    (get_or (lists (get_or s.parents i 0)) (rank s (get_or s.parents i 0) i) 0) 0

unfoldable pub offsets_assigned : Site → List ℕ
offsets_assigned s = listed (entry_assigned s (λ p. (assigned_under s p).1)) 63 0

unfoldable pub periods_assigned : Site → List ℕ
periods_assigned s = listed (entry_assigned s (λ p. (assigned_under s p).2)) 63 0

-- The site with the schedule that the slot rule gives it.
unfoldable pub scheduled : Site → Site
scheduled s = with_schedule s (offsets_assigned s) (periods_assigned s)

-- 01, slot rule 6: node n has a link, and it sends in slot t.
unfoldable pub link_sends : Site → ℕ → ℕ → Bool
link_sends s n t = ltb 0 n && (leb n s.links && sends (of_link s.periods n) (of_link s.offsets n) t)
