-- Right because `Grown` holds: the period is the base times a power of the factor and within the gap, and the power stands beside it; gap - period falls.
use Prim.Native.Nat.{◌-◌, ◌^◌}
use Rattle.slot_rule.proofs.Laws.Periods.{Grown}
use Rattle.bases.proofs.rise_of.Given as goal

abbrev pub invariant-loop-period : goal.invariant-loop-period
invariant-loop-period l = Grown (λ e. l.factor ^ e) l.factor l.base l.gap l.period l.power

abbrev pub decreases-loop-period : goal.decreases-loop-period
decreases-loop-period l = l.gap - l.period
