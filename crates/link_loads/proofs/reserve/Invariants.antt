-- Right because `Judging` holds of the flows before this one, each of which adds at most 255 * 65535 to a load, so that 64 fit, and as many live flows as `left`
-- says are to come: where none is left, what is found before this one is all.
use Prim.Native.Nat.{ℕ, ◌*◌, ◌≤◌}
use lib.ListN.{get_or}
use Rattle.site.proofs.Laws.Flows.{Left}
use Rattle.reservations.proofs.Laws.Reservations.{Judging}
use Rattle.link_loads.proofs.reserve.Given as goal

abbrev pub invariant-loop-n : goal.invariant-loop-n
invariant-loop-n l = record {
  room : (i : ℕ) → get_or l.loads i 0 ≤ l.n * 16711425;
  to_come : Left l.site l.n l.left;
  judged : Judging l.site l.n l.loads l.late;
}
