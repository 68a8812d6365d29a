-- Right because no word is left just where the search for one finds nothing.
use Rattle.line_words.specs.Words.{is_letter}
use Rattle.line_words.proofs.Laws.Words.{none_found}
use Rattle.line_words.proofs.blank.Goals as goal

pub returns : goal.returns
returns c = none_found _ _ _ (c.find_by.ensures is_letter (λ byte b p. p)) _ c.is_none.ensures
