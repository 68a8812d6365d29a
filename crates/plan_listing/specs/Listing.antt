-- A plan as lines that can be typed again.
use Rattle.std.specs.Prelude.{ℕ, cond, List, [], ◌∷◌, ◌++◌, get_or}
use Rattle.rulings.specs.Outcome.{Outcome, accepted, refused}
use Rattle.lists.specs.Lists.{joined}
use Rattle.site.specs.declared.Site.{Site}
use Rattle.site.specs.Sites.{used, live}
use Rattle.plan_reader.specs.Read.{read_of}
use Rattle.text.specs.Letters.{letters}
use Rattle.text.specs.Decimal.{decimal}
use Rattle.text.specs.Put.{text_of}
use Rattle.report_lines.specs.Lines.{refusal_line}

-- A node's line: parent, capacity, wanted gap; and that of the node at index i.
abbrev pub node_text : ℕ → ℕ → ℕ → List (List ℕ)
node_text parent capacity gap =
    letters "node " ∷ decimal parent ∷ letters " " ∷ decimal capacity ∷ letters " " ∷ decimal gap ∷ letters "\n" ∷ []

unfoldable pub node_typed : Site → ℕ → List (List ℕ)
node_typed s i = node_text (get_or s.parents i 0) (get_or s.capacities i 0) (get_or s.gaps i 0)

-- A flow's line: number, entry node, rate, deadline; and that of the flow with number n.
abbrev pub typed_flow : ℕ → ℕ → ℕ → ℕ → List (List ℕ)
typed_flow number entry rate deadline =
    letters "flow " ∷ decimal number ∷ letters " " ∷ decimal entry ∷ letters " " ∷ decimal rate ∷ letters " " ∷ decimal deadline ∷ letters "\n" ∷ []

unfoldable pub flow_typed : Site → ℕ → List (List ℕ)
flow_typed s n = typed_flow n (get_or s.entries n 0) (get_or s.rates n 0) (get_or s.deadlines n 0)

unfoldable pub flow_typed_if : Site → ℕ → List (List ℕ)
flow_typed_if s n = cond (live s n) (flow_typed s n) []

unfoldable pub site_typed : Site → List (List ℕ)
site_typed s = joined (node_typed s) (used s.links) 0 ++ joined (flow_typed_if s) 64 0

-- Only an accepted plan has a listing; of any other the refusal is told.
unfoldable pub listing_lines : Outcome Site → List (List ℕ)
listing_lines (accepted s) = site_typed s
listing_lines (refused number place) = refusal_line number place

unfoldable pub listing_of : List ℕ → List ℕ
listing_of bytes = text_of (listing_lines (read_of bytes))
