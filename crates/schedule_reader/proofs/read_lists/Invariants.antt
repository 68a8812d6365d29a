-- Right because the reading from `at` on has the answer of the whole; length bytes - at falls, since a command that passes is a LINK and lies within the
-- bytes.
use Prim.Native.Nat.{◌-◌}
use mathlib.Core.Path.{◌≡◌}
use lib.ListN.{length}
use Rattle.format.proofs.Laws.Reading.{read_on}
use Rattle.schedule_check.specs.Schedules.{of_lists}
use Rattle.schedule_reader.specs.Read.{schedules, schedule_read}
use Rattle.schedule_reader.proofs.read_lists.Given as goal

abbrev pub invariant-loop-at : goal.invariant-loop-at
invariant-loop-at l = read_on schedules l.bytes l.at (of_lists l.links l.offsets l.periods) ≡ schedule_read l.bytes

abbrev pub decreases-loop-at : goal.decreases-loop-at
decreases-loop-at l = length l.bytes - l.at
