-- Right because `Assigning` holds: no parent before this one is crowded, and the children of those before it have their entries.
use Rattle.schedule.proofs.Laws.Schedule.{Assigning}
use Rattle.schedule.proofs.assign_all.Given as goal

abbrev pub invariant-loop-parent : goal.invariant-loop-parent
invariant-loop-parent l = Assigning l.site l.links l.chains.first l.chains.next l.parent l.offsets l.periods
