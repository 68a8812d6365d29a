-- Right because the bytes passed are digits that say `value`, which never exceeds the limit.
use Rattle.line_words.proofs.Laws.Numbers.{Reads}
use Rattle.line_words.proofs.read_number.Given as goal

abbrev pub invariant-loop-byte : goal.invariant-loop-byte
invariant-loop-byte l = Reads l.word l.most l.byte-index l.value
