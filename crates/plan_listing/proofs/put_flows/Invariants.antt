-- Right because the lines of the live flows below this number are put.
use Rattle.lists.specs.Lists.{joined}
use Rattle.text.specs.Page.{Adds}
use Rattle.plan_listing.specs.Listing.{flow_typed_if}
use Rattle.plan_listing.proofs.put_flows.Given as goal

abbrev pub invariant-loop-number : goal.invariant-loop-number
invariant-loop-number l = Adds l.initial.page l.page (joined (flow_typed_if l.site) l.number 0)
