-- Right because no site that passes check 14 takes more bytes than there is room for.
use Prim.Native.Nat.{ℕ}
use lib.ListN.{length-replicate}
use Rattle.call_answers.proofs.Laws.{plan_shown}
use Rattle.call_answers.proofs.put_plan.Goals as goal

pub returns : goal.returns
returns c = rw (← plan_shown _ _ _ _ (length-replicate {A = ℕ} 763 0) c.write_plan-written.ensures) c.put_written.ensures
