-- How many rows a panel has, and how much room the panels of a picture take, in pixels.
use Rattle.std.specs.Prelude.{ℕ, zero, suc, max, ◌+◌, ◌*◌, cond, eqb, ltb, get_or}
use Rattle.lists.specs.Lists.{sum_to}
use Rattle.site.specs.declared.Site.{Site}
use Rattle.site.specs.Sites.{used}
use Rattle.frames.specs.Marks.{frame_of}
use Rattle.chart_rows.specs.Scale.{slots_span}

-- How many children a parent has.
unfoldable pub child_count : Site → ℕ → ℕ
child_count s p = sum_to (λ i. cond (eqb (get_or s.parents i 0) p) 1 0) (used s.links)

-- A row for each child, with the numbers of the slots above the rows, and again below them where these are many. Without children there is no panel.
unfoldable pub height_for : ℕ → ℕ
height_for children = cond (eqb children 0) 0 (cond (ltb 12 children) (116 + 20 * children) (100 + 20 * children))

unfoldable pub width_for : ℕ → ℕ → ℕ
width_for children slots = cond (eqb children 0) 0 (448 + slots_span slots)

-- The panels of the first parents stand one below the other, under the heading.
unfoldable pub height_to : Site → ℕ → ℕ
height_to s zero = 84
height_to s (suc p) = height_to s p + height_for (child_count s p)

-- A picture is as wide as its widest panel, and no narrower than its heading.
unfoldable pub width_to : Site → ℕ → ℕ
width_to s zero = 684
width_to s (suc p) = max (width_to s p) (width_for (child_count s p) (frame_of s p))

-- The root and every node may be a parent.
unfoldable pub panels_height : Site → ℕ
panels_height s = height_to s (used s.links + 1)

unfoldable pub panels_width : Site → ℕ
panels_width s = width_to s (used s.links + 1)
