-- All answers are handed out whole: bytes are taken up only while 8,192 more have room, and no answer is longer.
use Prim.Native.Nat.{ℕ, ◌+◌, ◌≤◌}
use mathlib.Core.Path.{◌≡◌, refl, ◌∙◌, ap}
use mathlib.Core.Bool.{Bool, true, false, cond}
use mathlib.Core.List.{List, [], ◌∷◌, ◌++◌}
use lib.Dec.{eqb, leb}
use lib.ListN.{length, take, drop}
use borrow.Author.Tests.{leb-true}
use native.Mathlib.Omega.{arith}
use Rattle.text.specs.Put.{puts, text_of}
use Rattle.text.proofs.Laws.Put.{puts_whole, text_joined, text_append}
use Rattle.call_text.specs.declared.Asked.{Asked}
use Rattle.guarantee.specs.Runs.{State, none}
use Rattle.guarantee.specs.Words.{Sized}
use Rattle.guarantee.proofs.Laws.{run_sized}
use Rattle.line_answers.specs.Steps.{answered_to}
use Rattle.line_answers.proofs.Laws.Short.{answers_short}
use Rattle.rehearsal.specs.Desk.{Desk, asked_in, onward, fed_byte, fed, taken_up, AtDesk, AllTaken}
use Rattle.rehearsal.proofs.Laws.Runs.{unanswered, carried_run, taken_leads}

-- What a line leaves of a state that calls keep is such a state.
line_sized : (asked : Asked) (σ : State) → Sized σ → Sized (answered_to asked σ).state
line_sized asked σ w = run_sized σ _ _ (carried_run σ asked none) w

-- The text of all answers so far has room in a space of so many bytes.
abbrev Roomy : ℕ → Desk → Type 0
Roomy size d = Sized d.state × (length (text_of d.text) ≤ size)

-- One byte more, where 8,192 more have room.
byte_roomy : (room size : ℕ) (d : Desk) (c : ℕ) → Roomy size d → length (text_of d.text) + 8192 ≤ size → Roomy size (fed_byte room d c)
unfolding fed_byte
byte_roomy room size d c w l = go (eqb c 10)
  where
    go : (b : Bool) → Roomy size (cond b (onward d (answered_to (asked_in room d.line) d.state))
        (record { calls = d.calls; state = d.state; line = d.line ++ (c ∷ []); text = d.text }))
    go true = (
      line_sized (asked_in room d.line) d.state w.0,
      omega (
        arith,
        text_append d.text (answered_to (asked_in room d.line) d.state).text,
        answers_short (asked_in room d.line) d.state w.0.passes w.0.small,
      ),
    )
    go false = w

-- What has room stands at the front of the space, and the rest of it stays.
front_whole : (out : List ℕ) (pieces : List (List ℕ)) → length (text_of pieces) ≤ length out
    → puts (0, out) pieces ≡ (length (text_of pieces), text_of pieces ++ drop (length (text_of pieces)) out)
front_whole out pieces l =
    let none_before : 0 + length (text_of pieces) ≡ length (text_of pieces) = omega arith in
    rw none_before at (puts_whole 0 out pieces (omega arith))

-- So the text stays within the space, whatever is taken up.
taken_roomy : (room : ℕ) (out : List ℕ) (d : Desk) (bytes : List ℕ) → Roomy (length out) d → Roomy (length out) (taken_up room (0, out) d bytes).0
unfolding taken_up
taken_roomy room out d [] w = w
taken_roomy room out d (c ∷ cs) w = go (λ v. taken_roomy room out (fed_byte room d c) cs v) (leb ((puts (0, out) d.text).0 + 8192) (length out)) refl
  where
    go : (Roomy (length out) (fed_byte room d c) → Roomy (length out) (taken_up room (0, out) (fed_byte room d c) cs).0)
        → (b : Bool) → leb ((puts (0, out) d.text).0 + 8192) (length out) ≡ b
        → Roomy (length out) (cond b (taken_up room (0, out) (fed_byte room d c) cs) (d, c ∷ cs)).0
    go rest true e =
        let more : length (text_of d.text) + 8192 ≤ length out
        = rw (front_whole out d.text w.1) at (leb-true ((puts (0, out) d.text).0 + 8192) (length out) e) in
        rest (byte_roomy room (length out) d c w more)
    go rest false e = w

-- The whole text of all answers is handed out, at the front of the space, and the rest of the space stays: for every space and whatever is typed, from any point of a
-- rehearsal on at which check 14 lets the site pass and there are 576 counters of 32 bits.
pub handed_whole : (room : ℕ) (out : List ℕ) (d : Desk) (bytes : List ℕ) → Sized d.state → length (text_of d.text) ≤ length out
    → puts (0, out) (taken_up room (0, out) d bytes).0.text
    ≡ (
      length (text_of (taken_up room (0, out) d bytes).0.text),
      text_of (taken_up room (0, out) d bytes).0.text ++ drop (length (text_of (taken_up room (0, out) d bytes).0.text)) out,
    )
handed_whole room out d bytes w l = front_whole out _ (taken_roomy room out d bytes (w, l)).1

-- So by what is promised of bytes taken up: the text that they add to a rehearsal's answers is what stands in the space of the answers, all of it.
pub answers_whole : (bytes space₀ out₀ : List ℕ) (σ₀ : State) (kept₀ taken : ℕ) (σ : State) (space : List ℕ) (kept : ℕ) (t : ℕ × List ℕ)
    → AllTaken bytes space₀ out₀ σ₀ kept₀ taken σ space kept t → Sized σ₀ → (d : Desk) → AtDesk d σ₀ space₀ kept₀
    → (text : List ℕ) × (text_of (fed (length space₀) d (take taken bytes)).text ≡ text_of d.text ++ text)
    × (t ≡ (length text, text ++ drop (length text) out₀))
unfolding puts text_of
answers_whole bytes space₀ out₀ σ₀ kept₀ taken σ space kept t w sized d h =
    let e = unanswered d in
    let all = (taken_up (length space₀) (0, out₀) e bytes).0 in
    let stands = w.1 e (record { at = record { state = h.state; held = h.held }; handed = refl }) in (
      text_of all.text,
      ap (λ (r : Desk). text_of r.text) (taken_leads bytes space₀ out₀ σ₀ kept₀ taken σ space kept t w d h) ∙ text_joined d.text all.text,
      stands.0.handed ∙ handed_whole (length space₀) out₀ e bytes (rw h.state at sized) (omega arith),
    )
