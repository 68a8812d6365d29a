-- Right because the flows below n have had their slot and the others have the cells of the start, and none is live where no live flow is left to meet.
use Rattle.site.proofs.Laws.Flows.{Left}
use Rattle.moves.proofs.Laws.Moves.{Kept, Stepped}
use Rattle.moves.proofs.move_all.Given as goal

abbrev pub invariant-loop-n : goal.invariant-loop-n
invariant-loop-n l = Kept l.initial.counters l.counters l.n × Left l.site l.n l.left × Stepped l.site l.fn.number l.initial.counters l.arrivals l.counters l.n
