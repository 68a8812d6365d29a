-- Right because `Upto` holds: the turns of the periods from the last one on give the rest of the assignment, and the list holds the children that had theirs;
-- 65536 - last falls.
use Prim.Native.Nat.{◌-◌}
use Rattle.pinwheel.specs.Inner.{steps_of, places_of}
use Rattle.pinwheel.proofs.Laws.Turns.{Upto}
use Rattle.pinwheel.proofs.offsets.fill.Given as goal

abbrev pub invariant-loop-period : goal.invariant-loop-period
invariant-loop-period l = Upto l.periods l.initial.offsets l.last l.turns.count l.turns.from l.offsets (steps_of l.turns.dealt) (places_of l.turns.dealt)

abbrev pub decreases-loop-period : goal.decreases-loop-period
decreases-loop-period l = 65536 - l.last
