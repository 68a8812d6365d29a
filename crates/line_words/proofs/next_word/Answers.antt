-- Right because the first search stops at the first byte of a word, and the second behind its last.
use Rattle.line_words.specs.Words.{is_blank, is_letter}
use Rattle.line_words.proofs.Laws.Words.{word_none, word_some}
use Rattle.line_words.proofs.next_word.Goals as goal

pub returns-in_err-start : goal.returns-in_err-start
returns-in_err-start c = rw c.from_residual.ensures (word_none _ _ (c.in_err-start.ensures is_letter (λ byte b p. p)))

pub returns : goal.returns
returns c = rw c.unwrap_or-end.ensures (word_some _ _ _ _ (c.in_ok-start.ensures is_letter (λ byte b p. p)) (c.find_by-2.ensures is_blank (λ byte b p. p)))
