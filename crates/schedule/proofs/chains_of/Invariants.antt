-- Right because `Chained` holds of the links from i on.
use Rattle.schedule.specs.Inner.{Chained}
use Rattle.schedule.proofs.chains_of.Given as goal

abbrev pub invariant-loop-i : goal.invariant-loop-i
invariant-loop-i l = Chained l.site.parents l.links l.i l.chains.first l.chains.next
