-- Right because `below` is how many flows below n are live.
use Rattle.site.proofs.Laws.Flows.{Counted}
use Rattle.host_changes.proofs.place_of.Given as goal

abbrev pub invariant-loop-n : goal.invariant-loop-n
invariant-loop-n l = Counted l.site l.n l.below
