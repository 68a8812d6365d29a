-- Right because `Handing` holds of both lists, and the next child has a greater index; links - i falls.
use Prim.Native.Nat.{◌-◌, ◌≤◌}
use Rattle.schedule.proofs.Laws.Schedule.{Handing}
use Rattle.schedule.proofs.spread.Given as goal

abbrev pub invariant-loop-i : goal.invariant-loop-i
invariant-loop-i l = (l.i ≤ l.links) × (l.k ≤ l.i) × Handing l.site.parents l.links l.parent l.i l.k l.os l.initial.offsets l.offsets
    × Handing l.site.parents l.links l.parent l.i l.k l.ps l.initial.periods l.periods

abbrev pub decreases-loop-i : goal.decreases-loop-i
decreases-loop-i l = l.links - l.i
