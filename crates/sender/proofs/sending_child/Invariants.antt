-- Right because `Looking` holds: no child above i sends, so that the last one from i down is the last of all.
use Rattle.sender.proofs.Laws.Answers.{Looking}
use Rattle.sender.proofs.sending_child.Given as goal

abbrev pub invariant-loop-i : goal.invariant-loop-i
invariant-loop-i l = Looking l.site l.parent l.slot l.i
