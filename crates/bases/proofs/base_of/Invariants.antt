-- Right because `Tried` holds: no base above this one fits, and where none above smallest gap / factor does, none at all does; base falls.
use Rattle.slot_rule.proofs.Laws.Bases.{Tried}
use Rattle.bases.proofs.base_of.Given as goal

abbrev pub invariant-loop-base : goal.invariant-loop-base
invariant-loop-base l = Tried l.factor l.gaps l.base

abbrev pub decreases-loop-base : goal.decreases-loop-base
decreases-loop-base l = l.base
