-- Right because `Grown` holds: the number is the base times a power of the factor and within the gap, and beside it stands `whole` divided by that
-- power; gap - grown falls.
use Prim.Native.Nat.{◌-◌, ◌/◌, ◌^◌}
use Rattle.slot_rule.proofs.Laws.Periods.{Grown}
use Rattle.bases.proofs.share.Given as goal

abbrev pub invariant-loop-grown : goal.invariant-loop-grown
invariant-loop-grown l = Grown (λ e. l.whole / l.factor ^ e) l.factor l.base l.gap l.grown l.times

abbrev pub decreases-loop-grown : goal.decreases-loop-grown
decreases-loop-grown l = l.gap - l.grown
