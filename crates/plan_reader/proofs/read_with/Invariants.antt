-- Right because the reading from `at` on has the answer of the whole; length bytes - at falls, since a command that passes has bytes and lies within
-- them.
use Prim.Native.Nat.{ℕ, ◌-◌}
use mathlib.Core.Path.{◌≡◌}
use lib.ListN.{length}
use Rattle.site.specs.declared.Site.{Site}
use Rattle.plan_commands.specs.Commands.{Draft, plans, decode}
use Rattle.format.proofs.Laws.Reading.{read_on}
use Rattle.plan_reader.proofs.read_with.Given as goal

abbrev pub reading : Site → ℕ → Draft
reading s n = record { site = s; next = n }

abbrev pub invariant-loop-at : goal.invariant-loop-at
invariant-loop-at l = record {
  kept : l.loads ≡ l.initial.loads;
  reads : read_on plans l.bytes l.at (reading l.site l.next) ≡ decode l.bytes;
}

abbrev pub decreases-loop-at : goal.decreases-loop-at
decreases-loop-at l = length l.bytes - l.at
