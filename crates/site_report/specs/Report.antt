-- 01, Marked plans: what is printed of plan bytes, as lines of words and decimal numbers. A line is a list of pieces.
use Rattle.std.specs.Prelude.{ℕ, ◌+◌, cond, List, [], ◌∷◌, ◌++◌, get_or}
use Rattle.rulings.specs.Outcome.{Outcome, accepted, refused}
use Rattle.lists.specs.Lists.{joined}
use Rattle.site.specs.declared.Site.{Site}
use Rattle.site.specs.Sites.{used, live, flow_count}
use Rattle.reservations.specs.Reservations.{delay_bound}
use Rattle.schedule.specs.Schedule.{base_under}
use Rattle.plan_reader.specs.Read.{read_of}
use Rattle.text.specs.Letters.{letters}
use Rattle.text.specs.Decimal.{decimal}
use Rattle.text.specs.Put.{text_of}
use Rattle.report_lines.specs.Lines.{slots_text, refusal_line}

-- A link's line; and that of the link at index i, whose node has the number i + 1.
abbrev pub link_text : ℕ → ℕ → ℕ → ℕ → ℕ → List (List ℕ)
link_text node parent base offset period =
    letters "link " ∷ decimal node ∷ letters " parent " ∷ decimal parent ∷ letters " base " ∷ decimal base ∷ slots_text offset period

unfoldable pub link_line : Site → ℕ → List (List ℕ)
link_line s i =
    link_text (i + 1) (get_or s.parents i 0) (base_under s (get_or s.parents i 0)) (get_or s.offsets i 0) (get_or s.periods i 0)

-- A flow's line, where bound is G; and that of the flow with number n.
abbrev pub flow_text : ℕ → ℕ → ℕ → ℕ → ℕ → List (List ℕ)
flow_text number entry rate deadline bound =
    letters "flow " ∷ decimal number ∷ letters " node " ∷ decimal entry ∷ letters " rate " ∷ decimal rate ∷
    letters " deadline " ∷ decimal deadline ∷ letters " bound " ∷ decimal bound ∷ letters "\n" ∷ []

unfoldable pub flow_line : Site → ℕ → List (List ℕ)
flow_line s n = flow_text n (get_or s.entries n 0) (get_or s.rates n 0) (get_or s.deadlines n 0) (delay_bound s n)

unfoldable pub flow_line_if : Site → ℕ → List (List ℕ)
flow_line_if s n = cond (live s n) (flow_line s n) []

-- The last line counts links and flows.
unfoldable pub counts_line : Site → List (List ℕ)
counts_line s = letters "accepted links " ∷ decimal s.links ∷ letters " flows " ∷ decimal (flow_count s) ∷ letters "\n" ∷ []

-- The lines of a site: its links, its live flows, their numbers.
unfoldable pub site_lines : Site → List (List ℕ)
site_lines s = joined (link_line s) (used s.links) 0 ++ (joined (flow_line_if s) 64 0 ++ counts_line s)

unfoldable pub report_lines : Outcome Site → List (List ℕ)
report_lines (accepted s) = site_lines s
report_lines (refused number place) = refusal_line number place

-- What `slotplan` prints of plan bytes.
unfoldable pub report_of : List ℕ → List ℕ
report_of bytes = text_of (report_lines (read_of bytes))
