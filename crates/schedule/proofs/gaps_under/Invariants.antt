-- Right because `Gathering` holds, and the next child has a greater index; links - i falls.
use Prim.Native.Nat.{◌-◌, ◌≤◌}
use Rattle.schedule.proofs.Laws.Schedule.{Gathering}
use Rattle.schedule.proofs.gaps_under.Given as goal

abbrev pub invariant-loop-i : goal.invariant-loop-i
invariant-loop-i l = (l.i ≤ l.links) × (l.count ≤ l.i) × Gathering l.site.parents l.site.gaps l.links l.parent l.i l.count l.wanted

abbrev pub decreases-loop-i : goal.decreases-loop-i
decreases-loop-i l = l.links - l.i
