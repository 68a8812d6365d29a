-- A route put as text, link by link.
use Prim.Native.Nat.{ℕ, ◌≤◌, ◌<◌}
use mathlib.Core.Path.{◌≡◌}
use mathlib.Core.List.{List, [], ◌++◌}
use Rattle.tree.specs.Tree.{up, route}
use Rattle.tree.proofs.Laws.Tree.{route_up, route_end}
use Rattle.text.specs.Listed.{each}
use Rattle.text.proofs.Laws.Put.{puts_append}
use Rattle.route_text.specs.Routes.{hop}

-- The text of a route is that of its first link and of the route behind it; no text where there is no way up.
pub way_more : (parents : List ℕ) (n : ℕ) → up parents n < n → each hop (route parents n) ≡ hop n ++ each hop (route parents (up parents n))
unfolding each
way_more parents n l = rw (route_up parents n l)

pub way_end : (parents : List ℕ) (n : ℕ) → n ≤ up parents n → each hop (route parents n) ≡ []
unfolding each
way_end parents n l = rw (route_end parents n l)

pub ruleset ways = (way_more, way_end, puts_append)
