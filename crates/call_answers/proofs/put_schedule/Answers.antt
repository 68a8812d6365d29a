-- Right because no site that passes check 14 takes more bytes than there is room for.
use Prim.Native.Nat.{ℕ}
use lib.ListN.{length-replicate}
use Rattle.call_answers.proofs.Laws.{schedule_shown_lem}
use Rattle.call_answers.proofs.put_schedule.Goals as goal

pub returns : goal.returns
returns c = rw (← schedule_shown_lem _ _ _ _ (length-replicate {A = ℕ} 379 0) c.write_schedule-written.ensures) c.put_written.ensures
