-- A rehearsal as it is typed, byte by byte: the lines that have ended are carried out one after the other, and their answers are put into a space.
use Rattle.std.specs.Prelude.{ℕ, ◌+◌, ◌≤◌, ◌<◌, ◌≡◌, cond, List, [], ◌∷◌, ◌++◌, eqb, leb, length, take, drop}
use Rattle.text.specs.Put.{puts}
use Rattle.request_text.specs.declared.Line.TheVariants.{Malformed}
use Rattle.call_text.specs.declared.Asked.{Asked}
use Rattle.call_text.specs.Lines.{alone, asked_of}
use Rattle.site.specs.declared.Site.{Site}
use Rattle.moves.specs.Hops.{own}
use Rattle.guarantee.specs.Runs.{State, Log, start, called}
use Rattle.line_answers.specs.Steps.{CarriedLine, answered_to}

-- How a rehearsal stands: the calls made with their answers, newest first; the site and the counters that they left; what has come of the line that has not
-- ended; the text of all answers, as pieces.
pub record Desk : Type 0 where
  pub calls : Log
  pub state : State
  pub line : List ℕ
  pub text : List (List ℕ)

-- The state that a start of the rehearsal leaves.
abbrev pub begun : Site → List ℕ → State
begun s counters = (called own start (record { site = s; counters = counters })).1

-- Where it begins: nothing is called, typed or answered.
abbrev pub desk : State → Desk
desk σ = record { calls = []; state = σ; line = []; text = [] }

-- What a line asks for. One of more bytes than there is room for is malformed.
unfoldable pub asked_in : ℕ → List ℕ → Asked
asked_in room line = cond (leb (length line) room) (asked_of line) (alone Malformed)

-- The line that has ended was carried out, and the next one begins.
abbrev pub onward : Desk → CarriedLine → Desk
onward d w = record { calls = w.calls ++ d.calls; state = w.state; line = []; text = d.text ++ w.text }

-- A newline ends the line; any other byte belongs to it.
unfoldable pub fed_byte : ℕ → Desk → ℕ → Desk
fed_byte room d c =
    cond (eqb c 10) (onward d (answered_to (asked_in room d.line) d.state))
    (record { calls = d.calls; state = d.state; line = d.line ++ (c ∷ []); text = d.text })

-- Bytes one after the other.
unfoldable pub fed : ℕ → Desk → List ℕ → Desk
fed room d [] = d
fed room d (c ∷ cs) = fed room (fed_byte room d c) cs

-- Bytes are taken up as long as the longest answer there is, of 8,192 bytes, has room in the space s behind those that were given; with the bytes that are left.
unfoldable pub taken_up : ℕ → ℕ × List ℕ → Desk → List ℕ → Desk × List ℕ
taken_up room s d [] = (d, [])
taken_up room s d (c ∷ cs) = cond (leb ((puts s d.text).0 + 8192) (length s.1)) (taken_up room s (fed_byte room d c) cs) (d, c ∷ cs)

-- What a space keeps of a line: its first `kept` bytes are the line. Where there are not so many, the line is longer than the space.
pub record HoldsLine (space : List ℕ) (kept : ℕ) (line : List ℕ) : Type 0 where
  pub whole : kept ≤ length space → line ≡ take kept space
  pub longer : length space < kept → length space < length line

-- The memory lent is at this point of a rehearsal: with its site and counters, and with the line that has not ended in its space.
pub record AtDesk (d : Desk) (σ : State) (space : List ℕ) (kept : ℕ) : Type 0 where
  pub state : σ ≡ d.state
  pub held : HoldsLine space kept d.line

-- What is typed takes a rehearsal on, wherever it stood.
abbrev pub GoesOn : List ℕ → State → List ℕ → ℕ → State → List ℕ → ℕ → Type 0
GoesOn typed σ₀ space₀ kept₀ σ space kept = (d : Desk) → AtDesk d σ₀ space₀ kept₀ → AtDesk (fed (length space₀) d typed) σ space kept

-- Something was typed that does.
pub record SomeTyped (σ₀ : State) (space₀ : List ℕ) (kept₀ : ℕ) (σ : State) (space : List ℕ) (kept : ℕ) : Type 0 where
  pub typed : List ℕ
  pub goes : GoesOn typed σ₀ space₀ kept₀ σ space kept

-- Besides, the space of the answers is as these leave s.
pub record Stands (s : ℕ × List ℕ) (d : Desk) (σ : State) (space : List ℕ) (kept : ℕ) (t : ℕ × List ℕ) : Type 0 where
  pub at : AtDesk d σ space kept
  pub handed : t ≡ puts s d.text

-- What taking up bytes comes to, wherever the rehearsal stood: so many of them were taken, those that have room for their answers, and the memory lent stands
-- where these take it.
abbrev pub AllTaken : List ℕ → List ℕ → List ℕ → State → ℕ → ℕ → State → List ℕ → ℕ → ℕ × List ℕ → Type 0
AllTaken bytes space₀ out₀ σ₀ kept₀ taken σ space kept t =
    (taken ≤ length bytes) × ((d : Desk) → Stands (0, out₀) d σ₀ space₀ kept₀ (0, out₀)
    → Stands (0, out₀) (taken_up (length space₀) (0, out₀) d bytes).0 σ space kept t × (drop taken bytes ≡ (taken_up (length space₀) (0, out₀) d bytes).1))
