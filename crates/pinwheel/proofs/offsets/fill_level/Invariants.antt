-- Right because `Assigning` holds: the turns of the children from i on give the rest of the level, and the list holds those that had theirs;
-- length periods - i falls.
use Prim.Native.Nat.{◌-◌}
use lib.ListN.{length}
use Rattle.pinwheel.specs.Inner.{steps_of, places_of}
use Rattle.pinwheel.proofs.Laws.Turns.{Assigning}
use Rattle.pinwheel.proofs.offsets.fill_level.Given as goal

abbrev pub invariant-loop-i : goal.invariant-loop-i
invariant-loop-i l =
    Assigning l.periods l.initial.offsets l.period l.i l.turns.count l.turns.from l.offsets (steps_of l.turns.dealt) (places_of l.turns.dealt)

abbrev pub decreases-loop-i : goal.decreases-loop-i
decreases-loop-i l = length l.periods - l.i
