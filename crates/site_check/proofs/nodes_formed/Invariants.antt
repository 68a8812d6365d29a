-- Right because no node before index i is ill, so that the first ill one from i on is the first of all.
use Prim.Native.Nat.{ℕ}
use mathlib.Core.Path.{◌≡◌}
use mathlib.Core.Bool.{Bool}
use Rattle.lists.specs.Search.{first_in}
use Rattle.site.specs.declared.Site.{Site}
use Rattle.site_check.specs.Check.{node_of, ill_node, first_ill_node}
use Rattle.site_check.proofs.nodes_formed.Given as goal

abbrev pub ill : Site → ℕ → Bool
ill site i = ill_node site.links site.parents i (node_of site i)

abbrev pub invariant-loop-i : goal.invariant-loop-i
invariant-loop-i l = first_ill_node l.site ≡ first_in (ill l.site) 63 l.i
