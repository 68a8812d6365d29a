-- Right because the lines of the nodes before this one are put.
use Rattle.lists.specs.Lists.{joined}
use Rattle.text.specs.Page.{Adds}
use Rattle.plan_listing.specs.Listing.{node_typed}
use Rattle.plan_listing.proofs.put_nodes.Given as goal

abbrev pub invariant-loop-i : goal.invariant-loop-i
invariant-loop-i l = Adds l.initial.page l.page (joined (node_typed l.site) l.i 0)
