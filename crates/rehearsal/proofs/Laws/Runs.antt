-- What is typed, in parts or at once, is a list of calls: each line that ends is carried out once, in its order.
use Prim.Native.Nat.{ℕ, zero, suc, ◌+◌, ◌-◌, ◌≤◌, ◌<◌}
use mathlib.Core.Path.{◌≡◌, refl, sym, ◌∙◌, ap}
use mathlib.Core.Bool.{Bool, true, false, cond}
use mathlib.Core.Logic.{inl, inr}
use mathlib.Core.List.{List, [], ◌∷◌, ◌++◌, append_assoc, append-nil}
use lib.Dec.{eqb, leb}
use lib.ListN.{length, take, drop, length-append, length-drop, take-append-drop}
use lib.Seq.{take_at, take_all}
use borrow.Author.Tests.{le-leb}
use native.Mathlib.Omega.{arith}
use Rattle.lists.proofs.Laws.Search.{lt_or_le}
use Rattle.rulings.specs.Outcome.{Ruling}
use Rattle.site.specs.declared.Site.{Site}
use Rattle.simulation.specs.Slot.{start_of}
use Rattle.moves.specs.Hops.{own}
use Rattle.text.specs.Put.{puts}
use Rattle.request_text.specs.declared.Line.{Line}
use Rattle.request_text.specs.declared.Line.TheVariants.{PassedOver, Makes, Asks, Malformed}
use Rattle.call_text.specs.declared.Asked.{Asked}
use Rattle.guarantee.specs.Runs.{State, Log, Run, then, called}
use Rattle.guarantee.proofs.Laws.{promised}
use Rattle.line_answers.specs.Steps.{call_of, carried_out, answered_to}
use Rattle.rehearsal.specs.Desk.{Desk, asked_in, onward, fed_byte, fed, taken_up, HoldsLine, AtDesk, GoesOn, SomeTyped, begun, desk, AllTaken}
use Rattle.rehearsal.proofs.Laws.Typing.{holds_nothing}

-- Bytes that come in parts are those that come at once.
pub fed_append : (room : ℕ) (d : Desk) (before behind : List ℕ) → fed room (fed room d before) behind ≡ fed room d (before ++ behind)
unfolding fed
fed_append room d [] behind = refl
fed_append room d (c ∷ cs) behind = fed_append room (fed_byte room d c) cs behind

-- The bytes taken up are the first ones, and those left are the others.
pub taken_front : (room : ℕ) (s : ℕ × List ℕ) (d : Desk) (bytes : List ℕ)
    → (front : List ℕ) × (bytes ≡ front ++ (taken_up room s d bytes).1) × ((taken_up room s d bytes).0 ≡ fed room d front)
unfolding taken_up fed
taken_front room s d [] = ([], refl, refl)
taken_front room s d (c ∷ cs) = go (leb ((puts s d.text).0 + 8192) (length s.1)) (taken_front room s (fed_byte room d c) cs)
  where
    go : (b : Bool) → (front : List ℕ) × (cs ≡ front ++ (taken_up room s (fed_byte room d c) cs).1)
        × ((taken_up room s (fed_byte room d c) cs).0 ≡ fed room (fed_byte room d c) front)
        → (front : List ℕ) × (c ∷ cs ≡ front ++ (cond b (taken_up room s (fed_byte room d c) cs) (d, c ∷ cs)).1)
        × ((cond b (taken_up room s (fed_byte room d c) cs) (d, c ∷ cs)).0 ≡ fed room d front)
    go true (front, e, f) = (c ∷ front, ap (λ (r : List ℕ). c ∷ r) e, f)
    go false w = ([], refl, refl)

-- At least one byte is taken up where the space has room for the longest answer and nothing stands in it.
pub taken_some : (room : ℕ) (out : List ℕ) (d : Desk) (c : ℕ) (cs : List ℕ) → 8192 ≤ length out → d.text ≡ []
    → taken_up room (0, out) d (c ∷ cs) ≡ taken_up room (0, out) (fed_byte room d c) cs
unfolding taken_up puts
taken_some room out d c cs l e = rw (e, le-leb 8192 (length out) l)

-- What was answered before plays no part in what comes.
abbrev pub unanswered : Desk → Desk
unanswered d = record { calls = d.calls; state = d.state; line = d.line; text = [] }

abbrev pub with_text : List (List ℕ) → Desk → Desk
with_text pieces d = record { calls = d.calls; state = d.state; line = d.line; text = pieces ++ d.text }

fed_behind : (room : ℕ) (pieces : List (List ℕ)) (d : Desk) (bytes : List ℕ) → fed room (with_text pieces d) bytes ≡ with_text pieces (fed room d bytes)
unfolding fed fed_byte
fed_behind room pieces d [] = refl
fed_behind room pieces d (c ∷ cs) = ap (λ (e : Desk). fed room e cs) (byte (eqb c 10)) ∙ fed_behind room pieces (fed_byte room d c) cs
  where
    byte : (b : Bool) → cond b (onward (with_text pieces d) (answered_to (asked_in room d.line) d.state))
        (record { calls = d.calls; state = d.state; line = d.line ++ (c ∷ []); text = pieces ++ d.text })
        ≡ with_text pieces (cond b (onward d (answered_to (asked_in room d.line) d.state))
        (record { calls = d.calls; state = d.state; line = d.line ++ (c ∷ []); text = d.text }))
    byte true =
        ap (λ (t : List (List ℕ)). record {
          calls = (answered_to (asked_in room d.line) d.state).calls ++ d.calls;
          state = (answered_to (asked_in room d.line) d.state).state;
          line = [];
          text = t;
        }) (append_assoc pieces d.text (answered_to (asked_in room d.line) d.state).text)
    byte false = refl

-- A line that ends makes a call of the list, or none.
pub carried_run : (σ₀ : State) (asked : Asked) {l : Log} {σ : State} → Run own σ₀ l σ → Run own σ₀ ((answered_to asked σ).calls ++ l) (answered_to asked σ).state
unfolding answered_to carried_out
carried_run σ₀ asked {l = l} {σ = σ} run = go asked.line
  where
    go : (line : Line) → Run own σ₀ ((carried_out line asked.arrivals σ).calls ++ l) (carried_out line asked.arrivals σ).state
    go PassedOver = run
    go (Makes call) = then (call_of call asked.arrivals) _ _ run (promised own (call_of call asked.arrivals) σ)
    go (Asks question) = run
    go Malformed = run

-- The calls made from the state σ₀ on led to the state in which the rehearsal stands.
abbrev pub CallsRun : State → Desk → Type 0
CallsRun σ₀ d = Run own σ₀ d.calls d.state

-- So whatever is typed, the calls made are a run from the first state to the last.
pub typed_run : (room : ℕ) (σ₀ : State) (d : Desk) (bytes : List ℕ) → CallsRun σ₀ d → CallsRun σ₀ (fed room d bytes)
unfolding fed fed_byte
typed_run room σ₀ d [] run = run
typed_run room σ₀ d (c ∷ cs) run = typed_run room σ₀ (fed_byte room d c) cs (byte (eqb c 10))
  where
    byte : (b : Bool) → CallsRun σ₀ (cond b (onward d (answered_to (asked_in room d.line) d.state))
        (record { calls = d.calls; state = d.state; line = d.line ++ (c ∷ []); text = d.text }))
    byte true = carried_run σ₀ (asked_in room d.line) run
    byte false = run

-- Some line is held, whatever the memory is.
holds_some : (space : List ℕ) (kept : ℕ) → (line : List ℕ) × HoldsLine space kept line
holds_some space kept = elim (lt_or_le (length space) kept) [
  | inl l ↦ (0 ∷ space, record { whole = λ m. absurd (omega arith); longer = λ m. omega arith })
  | inr l ↦ (take kept space, record { whole = λ m. refl; longer = λ m. absurd (omega arith) })
]

-- What is promised of bytes taken up, for the function's callers.
module _ (bytes space₀ out₀ : List ℕ) (σ₀ : State) (kept₀ taken : ℕ) (σ : State) (space : List ℕ) (kept : ℕ) (t : ℕ × List ℕ)
    (w : AllTaken bytes space₀ out₀ σ₀ kept₀ taken σ space kept t) where
  -- Where there is room for an answer, at least one byte is taken up ..
  pub taken_one : 8192 ≤ length out₀ → 1 ≤ length bytes → 1 ≤ taken
  unfolding puts
  taken_one room some = go bytes refl some taken refl
    where
      d : Desk
      d = record { calls = []; state = σ₀; line = (holds_some space₀ kept₀).0; text = [] }

      left : drop taken bytes ≡ (taken_up (length space₀) (0, out₀) d bytes).1
      left = (w.1 d (record { at = record { state = refl; held = (holds_some space₀ kept₀).1 }; handed = refl })).1

      go : (bs : List ℕ) → bytes ≡ bs → 1 ≤ length bytes → (n : ℕ) → taken ≡ n → 1 ≤ n
      go [] e l n f = absurd (omega (arith, ap length e))
      go (c ∷ cs) e l (suc n) f = omega arith
      go (c ∷ cs) e l zero f =
          let rest = taken_up (length space₀) (0, out₀) (fed_byte (length space₀) d c) cs in
          let all : c ∷ cs ≡ rest.1 = rw (f, e, taken_some (length space₀) out₀ d c cs room refl) at left in
          let front = taken_front (length space₀) (0, out₀) (fed_byte (length space₀) d c) cs in
          absurd (omega (arith, ap length all, ap length front.1, length-append front.0 rest.1))

  -- .. the bytes that were lead to what all come to, with their answers behind those that were given before ..
  pub taken_leads : (d : Desk) → AtDesk d σ₀ space₀ kept₀
      → fed (length space₀) d (take taken bytes) ≡ with_text d.text (taken_up (length space₀) (0, out₀) (unanswered d) bytes).0
  unfolding puts
  taken_leads d h =
      let e = unanswered d in
      let left = (w.1 e (record { at = record { state = h.state; held = h.held }; handed = refl })).1 in
      let front = taken_front (length space₀) (0, out₀) e bytes in
      let same : front.0 ≡ take taken bytes = fronts front.0 _ front.1 left in
      let text : with_text d.text e ≡ d
      = ap (λ (ps : List (List ℕ)). record { calls = d.calls; state = d.state; line = d.line; text = ps }) (append-nil d.text) in
      rw (front.2, same) (rw text at (fed_behind (length space₀) d.text e (take taken bytes)))
    where
      fronts : (front rest : List ℕ) → bytes ≡ front ++ rest → drop taken bytes ≡ rest → front ≡ take taken bytes
      fronts front rest e f =
          let long : length front ≡ taken = omega (arith, w.0, ap length e, length-append front rest, ap length f, length-drop taken bytes) in
          rw e (sym (take_at front rest taken long))

  -- .. and the rehearsal goes on by them.
  pub taken_on : GoesOn (take taken bytes) σ₀ space₀ kept₀ σ space kept
  unfolding puts
  taken_on d h =
      let stands = w.1 (unanswered d) (record { at = record { state = h.state; held = h.held }; handed = refl }) in
      rw (taken_leads d h) (record { state = stands.0.at.state; held = stands.0.at.held })

-- Nothing typed leaves a rehearsal, and what is typed later goes on where the former ended.
pub goes_none : (σ : State) (space : List ℕ) (kept : ℕ) → GoesOn [] σ space kept σ space kept
unfolding fed
goes_none σ space kept d h = h

module _ (σ₀ : State) (space₀ : List ℕ) (kept₀ : ℕ) (σ : State) (space : List ℕ) (kept : ℕ) (σ' : State) (space' : List ℕ) (kept' : ℕ) where
  pub goes_then : (former later : List ℕ) → GoesOn former σ₀ space₀ kept₀ σ space kept → length space ≡ length space₀
      → GoesOn later σ space kept σ' space' kept' → GoesOn (former ++ later) σ₀ space₀ kept₀ σ' space' kept'
  goes_then former later g long w d h =
      rw (← fed_append (length space₀) d former later) (rw long at (w (fed (length space₀) d former) (g d h)))

-- What is left of some bytes behind the first of them.
pub left : (taken : ℕ) (bytes : List ℕ) → take (length bytes - taken) (drop taken bytes) ≡ drop taken bytes
left taken bytes = take_all (length bytes - taken) (drop taken bytes) (omega (arith, length-drop taken bytes))

-- Some first bytes were typed and the rest is left: the rehearsal stands where the first ones take it.
pub record Typed (bytes rest : List ℕ) (σ₀ : State) (space₀ : List ℕ) (kept₀ : ℕ) (σ : State) (space : List ℕ) (kept : ℕ) : Type 0 where
  pub typed : List ℕ
  pub is : bytes ≡ typed ++ rest
  pub goes : GoesOn typed σ₀ space₀ kept₀ σ space kept

module _ (bytes : List ℕ) (σ₀ : State) (space₀ : List ℕ) (kept₀ : ℕ) where
  pub typed_none : Typed bytes bytes σ₀ space₀ kept₀ σ₀ space₀ kept₀
  typed_none = record { typed = []; is = refl; goes = goes_none _ _ _ }

  module _ (rest : List ℕ) (σ : State) (space : List ℕ) (kept : ℕ) (w : Typed bytes rest σ₀ space₀ kept₀ σ space kept) where
    pub typed_more : (out : List ℕ) (taken : ℕ) (σ' : State) (space' : List ℕ) (kept' : ℕ) (t : ℕ × List ℕ) → length space ≡ length space₀
        → AllTaken rest space out σ kept taken σ' space' kept' t → Typed bytes (take (length rest - taken) (drop taken rest)) σ₀ space₀ kept₀ σ' space' kept'
    typed_more out taken σ' space' kept' t long a = record {
      typed = w.typed ++ take taken rest;
      is = rw (left taken rest, append_assoc, take-append-drop taken rest) w.is;
      goes = goes_then σ₀ space₀ kept₀ σ space kept σ' space' kept' w.typed (take taken rest) w.goes long (taken_on rest space out σ kept taken σ' space' kept' t a);
    }

    -- Each time at least one byte is typed, so that there are fewer left.
    pub typed_fewer : (out : List ℕ) (taken : ℕ) (σ' : State) (space' : List ℕ) (kept' : ℕ) (t : ℕ × List ℕ) → 1 ≤ length rest → 8192 ≤ length out
        → AllTaken rest space out σ kept taken σ' space' kept' t → length (take (length rest - taken) (drop taken rest)) < length rest
    typed_fewer out taken σ' space' kept' t some room a =
        rw left (omega (arith, length-drop taken rest, taken_one rest space out σ kept taken σ' space' kept' t a room some))

    pub typed_all : rest ≡ [] → GoesOn bytes σ₀ space₀ kept₀ σ space kept
    typed_all e = rw (w.is, e, append-nil) w.goes

-- A start, then what is typed, and last a newline: the state that is left is one that typed bytes lead to from the start on.
pub rehearsed : (s : Site) (counters counters' : List ℕ) (a : Ruling) (σ : State) (space space' : List ℕ) (kept : ℕ) (σ' : State) (space'' : List ℕ) (kept' : ℕ)
    → (a, counters') ≡ start_of s counters → length space ≡ 1000 → SomeTyped (record { site = s; counters = counters' }) space 0 σ space' kept
    → length space' ≡ length space → (last : List ℕ) → GoesOn last σ space' kept σ' space'' kept'
    → (typed : List ℕ) × (σ' ≡ (fed 1000 (desk (begun s counters)) typed).state)
unfolding called
rehearsed s counters counters' a σ space space' kept σ' space'' kept' e long w same last g =
    let all : GoesOn (w.typed ++ last) (record { site = s; counters = counters' }) space 0 σ' space'' kept'
    = goes_then _ space 0 σ space' kept σ' space'' kept' w.typed last w.goes same g in
    let at = all (desk (begun s counters)) (record { state = left; held = holds_nothing space }) in
    (w.typed ++ last, rw long at at.state)
  where
    left : ◌≡◌ {A = State} (record { site = s; counters = counters' }) (begun s counters)
    left = ap (λ (q : Ruling × List ℕ). record { site = s; counters = q.1 }) e
