-- Right because the bytes before the index are stored.
use Rattle.testlib_text.proofs.Laws.Marks.{Marked}
use Rattle.testlib_text.proofs.numbered.Given as goal

abbrev pub invariant-loop-i : goal.invariant-loop-i
invariant-loop-i l = Marked l.i l.out
