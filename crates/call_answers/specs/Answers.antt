-- What is shown of a site and its counters while calls are made on them, as pieces of text.
use Rattle.std.specs.Prelude.{ℕ, ◌+◌, ◌*◌, cond, List, ◌∷◌, leb, length, get_or, take, drop, []}
use Rattle.rulings.specs.Outcome.{Outcome, accepted, refused}
use Rattle.site.specs.declared.Site.{Site}
use Rattle.site.specs.Sites.{live}
use Rattle.reservations.specs.Reservations.{delay_bound}
use Rattle.site_check.specs.Check.{passes_of}
use Rattle.schedule_writer.specs.Write.{schedule_of, schedule_bytes}
use Rattle.plan_writer.specs.Write.{plan_bytes}
use Rattle.text.specs.Letters.{letters}
use Rattle.text.specs.Decimal.{decimal}
use Rattle.text.specs.Listed.{each, spaced_decimal}
use Rattle.hexadecimal.specs.Hexadecimal.{hex_text}
use Rattle.report_lines.specs.Lines.{refusal}

-- The child that sends, or the refusal of the lookup.
unfoldable pub lookup_text : Outcome ℕ → List (List ℕ)
lookup_text (accepted child) = letters "sender " ∷ decimal child ∷ []
lookup_text (refused number place) = refusal number place

-- The nine cells of a flow number, where there are so many counters: its eight queues, that of the entry link first, and what was delivered.
unfoldable pub cells_text : List ℕ → ℕ → List (List ℕ)
cells_text counters number =
    letters "cells" ∷ cond (leb (9 * number + 9) (length counters)) (each spaced_decimal (take 9 (drop (9 * number) counters))) []

-- G and the deadline of a live flow.
unfoldable pub bound_text : Site → ℕ → List (List ℕ)
bound_text s number =
    cond (live s number) (letters "bound " ∷ decimal (delay_bound s number) ∷ letters " deadline " ∷ decimal (get_or s.deadlines number 0) ∷ [])
    (letters "not live" ∷ [])

-- The bytes of the plan and of the schedule of a site that passes check 14; 14 of any other.
unfoldable pub plan_text : Site → List (List ℕ)
plan_text s = cond (passes_of s) (hex_text (plan_bytes s)) (refusal 14 0)

unfoldable pub schedule_shown : Site → List (List ℕ)
schedule_shown s = cond (passes_of s) (hex_text (schedule_bytes (schedule_of s))) (refusal 14 0)
