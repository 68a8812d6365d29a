-- Right because the operands are read one after the other: the first that is missing or too large is the first wrong word, and so is one behind the last.
use lib.ListN.{drop}
use Rattle.line_words.specs.Words.{words_of}
use Rattle.line_words.proofs.Laws.Operands.{Reading}
use Rattle.line_words.proofs.read_operands.Given as goal

abbrev pub invariant-loop-i : goal.invariant-loop-i
invariant-loop-i g l = Reading l.limits (words_of (drop l.from l.line)) l.i (words_of (drop l.next l.line)) l.values
