-- Right because the word found is the first that is left, and its number is the operand.
use Rattle.line_words.proofs.Laws.Numbers.{operand_ensured, operand_missing, operand_read}
use Rattle.line_words.proofs.next_operand.Goals as goal

pub returns-in_err-word : goal.returns-in_err-word
returns-in_err-word c = operand_ensured _ _ _ _ (rw c.from_residual.ensures (operand_missing _ _ _ c.in_err-word.ensures))

pub returns-in_err-value : goal.returns-in_err-value
returns-in_err-value c = operand_ensured _ _ _ _ (rw c.from_residual-in_err-value.ensures (operand_read _ _ _ _ _ c.in_ok-word.ensures.1 _ c.in_err-value.ensures))

pub returns : goal.returns
returns c = operand_ensured _ _ _ _ (operand_read _ _ _ _ _ c.in_ok-word.ensures.1 _ c.in_ok-value.ensures)
