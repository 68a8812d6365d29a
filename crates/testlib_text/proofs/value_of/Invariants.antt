-- Right because the digits from the index on say the rest of the first ten.
use Rattle.testlib_text.proofs.Laws.Lines.{Saying}
use Rattle.testlib_text.proofs.value_of.Given as goal

abbrev pub invariant-loop-digit : goal.invariant-loop-digit
invariant-loop-digit l = Saying l.few l.digit-index l.value
