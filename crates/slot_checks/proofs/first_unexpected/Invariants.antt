-- Right because no number before n has arrivals that nothing expects.
use Prim.Native.Nat.{ℕ, ◌<◌}
use mathlib.Core.Path.{◌≡◌}
use mathlib.Core.Bool.{false}
use Rattle.slot_checks.specs.Checks.{unexpected}
use Rattle.slot_checks.proofs.first_unexpected.Given as goal

abbrev pub invariant-loop-n : goal.invariant-loop-n
invariant-loop-n l = (k : ℕ) → k < l.n → unexpected l.site l.arrivals k ≡ false
