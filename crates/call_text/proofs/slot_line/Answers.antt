-- Right because the slot number is the first of the words, and the counts are those of the others.
use mathlib.Core.Path.{◌∙◌}
use Rattle.call_text.proofs.Laws.Requests.{slot_unnumbered, slot_refused, slot_made}
use Rattle.call_text.proofs.slot_line.Goals as goal

pub returns-in_default : goal.returns-in_default
returns-in_default c = c.without_arrivals.ensures ∙ slot_unnumbered _ _ _ c.in_default.ensures.0

pub returns-in_default-read_arrivals : goal.returns-in_default-read_arrivals
returns-in_default-read_arrivals c =
    c.without_arrivals-in_default-read_arrivals.ensures
    ∙ slot_refused _ _ _ c.in-Some.ensures.0 c.in_default-read_arrivals.ensures

pub returns : goal.returns
returns c = slot_made _ _ _ c.in-Some.ensures.0 _ c.in-Some-read_arrivals.ensures
