-- Right because `Sending` holds: the entries before i are in and the others 0.
use Rattle.moves.proofs.Laws.Moves.{Sending}
use Rattle.moves.proofs.periods_sending.Given as goal

abbrev pub invariant-loop-i : goal.invariant-loop-i
invariant-loop-i l = Sending l.site l.slot l.i l.sending
