-- Right because each change takes a part of the line away, so that less is left of it.
use Prim.Native.Nat.{◌-◌}
use lib.ListN.{length}
use Rattle.test_schedules.proofs.altered.Given as goal

abbrev pub decreases-loop-change : goal.decreases-loop-change
decreases-loop-change l = length l.numbers.line.now - l.numbers.at
