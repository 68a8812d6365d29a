-- Right because `Filled` holds: each gap before i has its period beside it.
use Rattle.slot_rule.specs.Rule.{period}
use Rattle.lists.proofs.Laws.Lists.{Filled}
use Rattle.pinwheel.proofs.periods.fill.Given as goal

abbrev pub invariant-loop-i : goal.invariant-loop-i
invariant-loop-i l = Filled 0 0 (period l.factor l.base) l.gaps l.i l.periods
