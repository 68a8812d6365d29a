-- What is printed of schedule bytes.
use Rattle.std.specs.Prelude.{ℕ, ◌+◌, List, [], ◌∷◌, ◌++◌, get_or}
use Rattle.rulings.specs.Outcome.{Outcome, accepted, refused}
use Rattle.lists.specs.Lists.{joined}
use Rattle.site.specs.Sites.{used}
use Rattle.schedule_check.specs.declared.Schedule.{Schedule}
use Rattle.schedule_reader.specs.Read.{schedule_read}
use Rattle.text.specs.Letters.{letters}
use Rattle.text.specs.Decimal.{decimal}
use Rattle.text.specs.Put.{text_of}
use Rattle.report_lines.specs.Lines.{slots_text, refusal_line}

-- The line of the link at index i of a schedule; and the lines of one, with the number of its links.
unfoldable pub slots_line : Schedule → ℕ → List (List ℕ)
slots_line s i = letters "link " ∷ decimal (i + 1) ∷ slots_text (get_or s.offsets i 0) (get_or s.periods i 0)

unfoldable pub schedule_text : Schedule → List (List ℕ)
schedule_text s = joined (slots_line s) (used s.links) 0 ++ (letters "accepted links " ∷ decimal s.links ∷ letters "\n" ∷ [])

unfoldable pub schedule_lines : Outcome Schedule → List (List ℕ)
schedule_lines (accepted s) = schedule_text s
schedule_lines (refused number place) = refusal_line number place

-- What `readschedule` prints of schedule bytes.
unfoldable pub schedule_report_of : List ℕ → List ℕ
schedule_report_of bytes = text_of (schedule_lines (schedule_read bytes))
