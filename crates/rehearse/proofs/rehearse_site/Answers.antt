-- Right because what is typed goes on from the start, and the newline at the end ends a last line that has none.
use borrow.Author.Rules.{rules}
use Prim.Native.Nat.{ℕ}
use lib.ListN.{length-replicate}
use Rattle.rehearsal.proofs.Laws.Runs.{rehearsed}
use Rattle.rehearse.proofs.rehearse_site.Goals as goal

pub returns : goal.returns
returns c =
    rehearsed _ _ _ _ _ _ _ _ _ _ _ c.start.ensures (length-replicate {A = ℕ} 1000 0) c.answer_input-ended.ensures (search rules) _
    c.answer_bytes-last.ensures
