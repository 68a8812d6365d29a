-- Which slots of a parent's frame are marked, and how a mark is written.
use Rattle.std.specs.Prelude.{ℕ, ◌+◌, Bool, not, cond, ◌&&◌, List, [], ◌∷◌, eqb, get_or}
use Rattle.lists.specs.Search.{any}
use Rattle.lists.specs.Lists.{largest, joined, sum_to}
use Rattle.site.specs.declared.Site.{Site}
use Rattle.site.specs.Sites.{used}
use Rattle.schedule.specs.Schedule.{gaps_from, link_sends}
use Rattle.text.specs.Letters.{letters}
use Rattle.text.specs.Decimal.{decimal}

-- The frame of p: the largest period of its children, after which all of them send as before.
unfoldable pub frame_of : Site → ℕ → ℕ
frame_of s p = largest (gaps_from s.parents s.periods p (used s.links) 0)

-- A mark at slot t, one slot wide: a piece of a path whose unit is a slot.
unfoldable pub mark : ℕ → List (List ℕ)
mark t = letters "M" ∷ decimal t ∷ letters " 0h1" ∷ []

-- The marks of the slots below n that have a test, by rising slot.
unfoldable pub mark_if : (ℕ → Bool) → ℕ → List (List ℕ)
mark_if test t = cond (test t) (mark t) []

unfoldable pub marks : (ℕ → Bool) → ℕ → List (List ℕ)
marks test n = joined (mark_if test) n 0

-- No child of p sends in slot t.
unfoldable pub idle : Site → ℕ → ℕ → Bool
idle s p t = not (any (λ i. eqb (get_or s.parents i 0) p && link_sends s (i + 1) t) (used s.links) 0)

-- How many of the first n slots are idle under p.
unfoldable pub idle_count : Site → ℕ → ℕ → ℕ
idle_count s p n = sum_to (λ t. cond (idle s p t) 1 0) n
