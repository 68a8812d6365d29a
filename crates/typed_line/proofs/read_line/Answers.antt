-- Right because the search stops at the first #, before which the command stands.
use mathlib.Core.Path.{sym, ◌∙◌, ap}
use Rattle.line_words.specs.Words.{words_of}
use Rattle.line_words.proofs.Laws.Parts.{found_front}
use Rattle.typed_line.specs.Lines.{command_of, typed_line}
use Rattle.typed_line.proofs.read_line.Goals as goal

pub returns : goal.returns
unfolding typed_line
returns c = c.read_command.ensures ∙ ap (λ text. command_of (words_of text)) (rw c.unwrap_or-end.ensures (sym (found_front _ _ _ c.find.ensures)))
