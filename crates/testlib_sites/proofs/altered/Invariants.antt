-- Right because the changes from the index on still make the whole; what is left of the line falls.
use Prim.Native.Nat.{◌-◌}
use mathlib.Core.Path.{◌≡◌}
use lib.ListN.{length}
use Rattle.testlib_sites.specs.Altered.{altered_from}
use Rattle.testlib_sites.proofs.Laws.{Altering}
use Rattle.testlib_sites.proofs.altered.Given as goal

abbrev pub invariant-loop-change : goal.invariant-loop-change
invariant-loop-change l =
    (l.numbers.line.now ≡ l.fn.numbers.line.now)
    × Altering l.fn.numbers.line.now (altered_from l.fn.numbers.line.now l.fn.numbers.at l.initial.next) l.numbers.at l.next

abbrev pub decreases-loop-change : goal.decreases-loop-change
decreases-loop-change l = length l.numbers.line.now - l.numbers.at
