-- What one line of a rehearsal comes to: the call that it makes, the state that it leaves, and the text of its answer.
use Rattle.std.specs.Prelude.{ℕ, ◌≡◌, List, [], ◌∷◌, ◌++◌}
use Rattle.rulings.specs.Outcome.{Ruling}
use Rattle.site.specs.declared.Site.{Site}
use Rattle.sender.specs.Sender.{sender_of}
use Rattle.moves.specs.Hops.{own}
use Rattle.guarantee.specs.Runs.{slot, admit, release, start, State, called, Log}
use Rattle.guarantee.specs.Runs as runs
use Rattle.text.specs.Letters.{letters}
use Rattle.text.specs.Put.{puts}
use Rattle.report_lines.specs.Lines.{verdict_text}
use Rattle.site_report.specs.Report.{site_lines}
use Rattle.plan_listing.specs.Listing.{site_typed}
use Rattle.call_answers.specs.Answers.{lookup_text, cells_text, bound_text, plan_text, schedule_shown}
use Rattle.call_text.specs.declared.Asked.{Asked}
use Rattle.request_text.specs.declared.Call.{Call}
use Rattle.request_text.specs.declared.Call.TheVariants.{Start, Slot, Admit, Release}
use Rattle.request_text.specs.declared.Question.{Question}
use Rattle.request_text.specs.declared.Question.TheVariants.{Sender, Cells, Bound, Plan, Schedule, Show, Typed}
use Rattle.request_text.specs.declared.Line.{Line}
use Rattle.request_text.specs.declared.Line.TheVariants.{PassedOver, Makes, Asks, Malformed}

-- The call of a list that a line names; the arrivals are those of a slot.
unfoldable pub call_of : Call → List ℕ → runs.Call
call_of Start xs = start
call_of (Slot t) xs = slot t xs
call_of (Admit f) xs = admit f
call_of (Release n) xs = release n

-- An answer that takes one line, with its end.
abbrev pub as_line : List (List ℕ) → List (List ℕ)
as_line pieces = pieces ++ (letters "\n" ∷ [])

-- The answer to a question. `show` has the lines that `slotplan` prints of the site's plan, and `typed` those of `listing`.
unfoldable pub question_text : Question → Site → List ℕ → List (List ℕ)
question_text (Sender parent t) s counters = as_line (lookup_text (sender_of s parent t))
question_text (Cells n) s counters = as_line (cells_text counters n)
question_text (Bound n) s counters = as_line (bound_text s n)
question_text Plan s counters = as_line (plan_text s)
question_text Schedule s counters = as_line (schedule_shown s)
question_text Show s counters = site_lines s
question_text Typed s counters = site_typed s

-- What a line comes to: the calls that it makes with their answers (one or none), the state that it leaves, and the text that answers it.
pub record CarriedLine : Type 0 where
  pub calls : Log
  pub state : State
  pub text : List (List ℕ)

-- Nothing is called, and this is told.
abbrev pub only_told : State → List (List ℕ) → CarriedLine
only_told σ pieces = record { calls = []; state = σ; text = pieces }

-- A call is made, and its answer is told.
abbrev pub as_called : runs.Call → Ruling × State → CarriedLine
as_called c (a, σ) = record { calls = (c, a) ∷ []; state = σ; text = as_line (verdict_text a) }

-- The answer to a line that says nothing known.
abbrev pub malformed_text : List (List ℕ)
malformed_text = letters "error\n" ∷ []

unfoldable pub carried_out : Line → List ℕ → State → CarriedLine
carried_out PassedOver xs σ = only_told σ []
carried_out (Makes call) xs σ = as_called (call_of call xs) (called own (call_of call xs) σ)
carried_out (Asks question) xs σ = only_told σ (question_text question σ.site σ.counters)
carried_out Malformed xs σ = only_told σ malformed_text

-- What a line comes to by what it asks for.
unfoldable pub answered_to : Asked → State → CarriedLine
answered_to asked σ = carried_out asked.line asked.arrivals σ

-- A line that was carried out left this state, and its text stands behind what stood in the space.
abbrev pub CarriedAs : CarriedLine → State → ℕ × List ℕ → ℕ × List ℕ → Type 0
CarriedAs w σ s t = (σ ≡ w.state) × (t ≡ puts s w.text)
