-- Right because the links passed have room, so that the first one without it from the node on is the first of the route; the node's number falls.
use mathlib.Core.Path.{◌≡◌}
use Rattle.tree.specs.Tree.{route}
use Rattle.reservations.specs.Inner.{first_full}
use Rattle.link_loads.proofs.first_unfit.Given as goal

abbrev pub invariant-loop-link : goal.invariant-loop-link
invariant-loop-link l = first_full l.site.capacities l.loads l.site.periods l.rate (route l.site.parents l.link)
    ≡ first_full l.site.capacities l.loads l.site.periods l.rate (route l.site.parents l.entry)

abbrev pub decreases-loop-link : goal.decreases-loop-link
decreases-loop-link l = l.link
