-- Right because no number before n overflows, and none is live where no live flow is left to meet.
use Prim.Native.Nat.{ℕ, ◌<◌}
use mathlib.Core.Path.{◌≡◌}
use mathlib.Core.Bool.{false}
use Rattle.site.proofs.Laws.Flows.{Left}
use Rattle.slot_checks.specs.Checks.{overflows}
use Rattle.slot_checks.proofs.first_overflow.Given as goal

abbrev pub invariant-loop-n : goal.invariant-loop-n
invariant-loop-n l = Left l.site l.n l.left × ((k : ℕ) → k < l.n → overflows l.site l.counters l.arrivals k ≡ false)
