-- No answer has more than 8,192 bytes. On a site that check 14 lets pass, with counters of 32 bits, every line is answered by so many at most.
use Prim.Native.Nat.{ℕ, suc, ◌+◌, ◌*◌, ◌≤◌, ◌<◌}
use mathlib.Core.Path.{◌≡◌, refl}
use mathlib.Core.Bool.{Bool, true, false, cond}
use mathlib.Core.List.{List, [], ◌∷◌}
use mathlib.Core.Logic.{◌⊎◌, inl, inr}
use lib.Dec.{leb}
use lib.ListN.{length, get_or, take, drop, length-append, length-take}
use lib.Seq.{get_or-take, get_or-drop}
use native.Mathlib.Omega.{arith}
use Rattle.rulings.specs.Outcome.{Outcome, Ruling, accepted, refused, Checks, none, check, Passed, Ruled, nothing}
use Rattle.rulings.proofs.Laws.Outcomes.{refused_not}
use Rattle.lists.proofs.Laws.Search.{lt_or_le}
use Rattle.site.specs.declared.Site.{Site}
use Rattle.site.specs.declared.Flow.{Flow}
use Rattle.site.specs.Sites.{live}
use Rattle.tree.proofs.Laws.Tree.{has_when, route_within}
use Rattle.reservations.specs.Reservations.{delay_bound}
use Rattle.reservations.specs.Words.{UnfitAt}
use Rattle.limits.specs.Words.{FlowWithin}
use Rattle.flow_checks.specs.Flows.{route_for}
use Rattle.format.specs.Commands.{schedule_size}
use Rattle.site_check.specs.Check.{passes_of}
use Rattle.site_check.specs.Words.{Sound}
use Rattle.site_check.proofs.Laws.{passes_sound, bound_within}
use Rattle.site_check.proofs.Laws.Check.{passes_few}
use Rattle.plan_writer.specs.Write.{plan_bytes}
use Rattle.schedule_writer.specs.Write.{schedule_of, schedule_bytes}
use Rattle.schedule_writer.proofs.Laws.Write.{links_few, schedule_size_lem}
use Rattle.plan.proofs.Laws.{plan_short}
use Rattle.plan.proofs.Laws.Near.{near_refused}
use Rattle.sender.specs.Words.{SendingChild, sender_checks}
use Rattle.sender.specs.Sender.{sender_of}
use Rattle.sender.proofs.Laws.{sender_when, sender_first}
use Rattle.moves.specs.Hops.{own}
use Rattle.guarantee.specs.Runs.{slot, admit, release, start, State, called, checks_of}
use Rattle.guarantee.specs.Runs as runs
use Rattle.guarantee.specs.Words.{Small}
use Rattle.guarantee.proofs.Laws.{promised}
use Rattle.guarantee.proofs.Laws.Demand.{call_ruled}
use Rattle.text.specs.Letters.{letters}
use Rattle.text.specs.Decimal.{decimal}
use Rattle.text.specs.Put.{text_of}
use Rattle.text.specs.Listed.{each, spaced_decimal}
use Rattle.text.proofs.Laws.Put.{text_append}
use Rattle.text.proofs.Laws.Decimal.{decimal_short}
use Rattle.hexadecimal.specs.Hexadecimal.{hex_of, spaced_hex, hex_text}
use Rattle.report_lines.specs.Lines.{refusal_line, verdict_text}
use Rattle.report_lines.proofs.Laws.Short.{Figure, field, ended, told_short}
use Rattle.report_lines.proofs.Laws.Figures.{deadline_figure}
use Rattle.site_report.proofs.Laws.Short.{site_short}
use Rattle.plan_listing.proofs.Laws.Short.{typed_whole}
use Rattle.call_answers.specs.Answers.{lookup_text, cells_text, bound_text, plan_text, schedule_shown}
use Rattle.call_text.specs.declared.Asked.{Asked}
use Rattle.request_text.specs.declared.Question.{Question}
use Rattle.request_text.specs.declared.Question.TheVariants.{Sender, Cells, Bound, Plan, Schedule, Show, Typed}
use Rattle.request_text.specs.declared.Line.{Line}
use Rattle.request_text.specs.declared.Line.TheVariants.{PassedOver, Makes, Asks, Malformed}
use Rattle.line_answers.specs.Steps.{call_of, as_line, question_text, carried_out, answered_to}

-- Checks whose refusals 01's tables name: their numbers are 1 to 22, and where those before them pass, their places are at most 763.
unfoldable Told : Checks → Type 0
Told none = Unit
Told (check number fails rest) = (1 ≤ number) × (number ≤ 22) × ((p : ℕ) → fails p → p ≤ 763) × (Passed fails → Told rest)

told_none : Told none
unfolding Told
told_none = tt

at : (number : ℕ) (fails : ℕ → Type 0) (rest : Checks) → (1 ≤ number) × (number ≤ 22) → ((p : ℕ) → fails p → p ≤ 763) → (Passed fails → Told rest)
    → Told (check number fails rest)
unfolding Told
at number fails rest l near w = (l.0, l.1, near, w)

at_0 : (number : ℕ) (fails : ℕ → Type 0) (rest : Checks) → (1 ≤ number) × (number ≤ 22) → (Passed (λ p. fails p × (p ≡ 0)) → Told rest)
    → Told (check number (λ p. fails p × (p ≡ 0)) rest)
at_0 number fails rest l w = at number (λ p. fails p × (p ≡ 0)) rest l (λ p q. omega (arith, q.1)) w

-- A refusal by such checks takes one short line.
refusal_told : {A : Type 0} (gives : A → Type 0) (cs : Checks) (number place : ℕ) → Told cs → Ruled gives cs (refused number place)
    → length (text_of (refusal_line number place)) ≤ 8192
unfolding Told Ruled
refusal_told gives none number place w (a, e, g) = absurd (refused_not _ refl e)
refusal_told {A = A} gives (check n fails rest) number place w (inl (p, e, f)) =
    let a : number ≡ n = cc in let b : place ≡ p = cc in
    rw (a, b) (told_short {A = A} (refused n p) n p refl (near_refused 763 n p w.0 (w.2 p f)) w.1)
refusal_told gives (check n fails rest) number place w (inr (passed, r)) = refusal_told gives rest number place (w.3 passed) r

-- The checks of every call are such: a place is 0, a flow's number, or a link.
module _ (σ : State) (w : Sound σ.site) where
  number_few : (f : Flow) → Passed (λ p. (FlowWithin f → ⊥) × (p ≡ 0)) → f.number ≤ 63
  number_few f within = elim (lt_or_le 63 f.number) [ inl l ↦ absurd (within 0 (λ q. omega (arith, q.number_most), refl)) | inr l ↦ l ]

  link_few : (f : Flow) → Passed (λ p. ((f.entry ≡ 0) ⊎ (σ.site.links < f.entry)) × (p ≡ 0))
      → (p : ℕ) → UnfitAt σ.site f.rate (route_for σ.site f) p → p ≤ 63
  link_few f enters p q = elim (lt_or_le σ.site.links f.entry) [
    | inl l ↦ absurd (enters 0 (inr l, refl))
    | inr l ↦ omega (arith, (route_within σ.site.parents p f.entry ((has_when p _).1 (q.at, q.link.0, q.link.1))).1, w.formed.few)
  ]

  calls_told : (c : runs.Call) → Told (checks_of c σ)
  unfolding checks_of
  calls_told (slot t xs) =
      at_0 1 _ _ (omega arith) (λ _. at_0 1 _ _ (omega arith) (λ _. at_0 14 _ _ (omega arith) (λ _.
      at 19 _ _ (omega arith) (λ p q. omega (arith, q.few)) (λ _. at 20 _ _ (omega arith) (λ p q. omega (arith, q.few)) (λ _. told_none)))))
  calls_told (admit f) =
      at_0 1 _ _ (omega arith) (λ _. at_0 14 _ _ (omega arith) (λ _. at_0 5 _ _ (omega arith) (λ within. at_0 6 _ _ (omega arith) (λ enters.
      at 15 _ _ (omega arith) (λ p q. omega (arith, q.1, number_few f within)) (λ _.
      at 17 _ _ (omega arith) (λ p q. omega (arith, link_few f enters p q)) (λ _.
      at 18 _ _ (omega arith) (λ p q. omega (arith, q.1, number_few f within)) (λ _. told_none)))))))
  calls_told (release n) =
      at_0 1 _ _ (omega arith) (λ _. at_0 14 _ _ (omega arith) (λ _. at_0 5 _ _ (omega arith) (λ few.
      at 16 _ _ (omega arith) (λ p q. omega (arith, q.1, released few)) (λ _. told_none))))
    where
      released : Passed (λ p. (63 < n) × (p ≡ 0)) → n ≤ 63
      released few = elim (lt_or_le 63 n) [ inl l ↦ absurd (few 0 (l, refl)) | inr l ↦ l ]
  calls_told start = at_0 1 _ _ (omega arith) (λ _. at_0 14 _ _ (omega arith) (λ _. told_none))

  -- So the answer of a call is short.
  verdict_short : (c : runs.Call) → length (text_of (as_line (verdict_text (called own c σ).0))) ≤ 8192
  unfolding text_of verdict_text
  verdict_short c = go (called own c σ).0 (call_ruled own c σ _ _ (promised own c σ))
    where
      go : (r : Ruling) → Ruled nothing (checks_of c σ) r → length (text_of (as_line (verdict_text r))) ≤ 8192
      go (accepted tt) q = omega arith
      go (refused number place) q = refusal_told nothing (checks_of c σ) number place (calls_told c) q

-- The pieces of each number of a list, where those of one have at most k bytes.
each_short : (item : ℕ → List (List ℕ)) (k : ℕ) (xs : List ℕ) → ((i : ℕ) → i < length xs → length (text_of (item (get_or xs i 0))) ≤ k)
    → length (text_of (each item xs)) ≤ length xs * k
unfolding each text_of
each_short item k [] w = omega arith
each_short item k (x ∷ xs) w =
    omega (arith, text_append (item x) (each item xs), w 0 (omega arith), each_short item k xs (λ i l. w (suc i) (omega arith)))

spaced_short : (n : ℕ) → n ≤ 4294967295 → length (text_of (spaced_decimal n)) ≤ 11
unfolding text_of spaced_decimal
spaced_short n l = omega (arith, decimal_short 10 n (omega arith) (omega arith), length-append (decimal n) [])

-- Bytes in hexadecimal: two digits each, and a space between two.
hex_short : (bytes : List ℕ) → length (text_of (hex_text bytes)) ≤ length bytes * 3
unfolding hex_text hex_of spaced_hex text_of
hex_short [] = omega arith
hex_short (b ∷ bs) = omega (arith, each_short spaced_hex 3 bs (λ i l. omega arith))

-- The end of its line is one byte more.
line_short : (pieces : List (List ℕ)) (k : ℕ) → length (text_of pieces) ≤ k → k < 8192 → length (text_of (as_line pieces)) ≤ 8192
line_short pieces k l m = omega (arith, text_append pieces (letters "\n" ∷ []), ended)

-- The answers to questions.
bound_line : (bound deadline : ℕ) → Figure bound → Figure deadline
    → length (text_of (letters "bound " ∷ decimal bound ∷ letters " deadline " ∷ decimal deadline ∷ letters "\n" ∷ [])) ≤ 27
bound_line bound deadline a b =
    field (letters "bound ") bound _ _ (omega arith) a (field (letters " deadline ") deadline _ _ (omega arith) b ended)

cells_short : (counters : List ℕ) (n : ℕ) → ((i : ℕ) → get_or counters i 0 ≤ 4294967295) → length (text_of (as_line (cells_text counters n))) ≤ 8192
unfolding cells_text text_of
cells_short counters n small = line_short (cells_text counters n) 104 (go (leb (9 * n + 9) (length counters))) (omega arith)
  where
    cells : List ℕ
    cells = take 9 (drop (9 * n) counters)

    few : length cells ≤ 9
    few = simp length-take (omega arith)

    cell : (i : ℕ) → i < length cells → length (text_of (spaced_decimal (get_or cells i 0))) ≤ 11
    cell i l = spaced_short _ (rw (get_or-take 9 (drop (9 * n) counters) i 0 (omega (arith, few)), get_or-drop (9 * n) counters i 0) (small (9 * n + i)))

    go : (b : Bool) → length (text_of (letters "cells" ∷ cond b (each spaced_decimal cells) [])) ≤ 104
    go true = omega (arith, each_short spaced_decimal 11 cells cell, few)
    go false = omega arith

module _ (s : Site) (e : passes_of s ≡ true) where
  sender_told : (parent : ℕ) → Told (sender_checks s parent)
  unfolding Told
  sender_told parent = (omega arith, omega arith, λ p w. omega (arith, w.1), λ _. (omega arith, omega arith, λ p w. omega (arith, w.1), λ _. tt))

  sender_short : (parent t : ℕ) → length (text_of (as_line (lookup_text (sender_of s parent t)))) ≤ 8192
  unfolding lookup_text
  sender_short parent t = go (sender_of s parent t) refl
    where
      child_few : (c : ℕ) → SendingChild s parent t c → c ≤ 63
      child_few c (inl q) = omega (arith, q.1.1, passes_few s e)
      child_few c (inr q) = omega (arith, q.0)

      go : (o : Outcome ℕ) → sender_of s parent t ≡ o → length (text_of (as_line (lookup_text o))) ≤ 8192
      go (accepted c) q =
          let fits : Figure c = record { is = omega (arith, child_few c ((sender_when s parent t c).0 q).2) } in
          let short : length (text_of (letters "sender " ∷ decimal c ∷ letters "\n" ∷ [])) ≤ 13 = field (letters "sender ") c _ _ (omega arith) fits ended in
          omega arith
      go (refused number place) q =
          refusal_told (SendingChild s parent t) (sender_checks s parent) number place (sender_told parent) ((sender_first s parent t (refused number place)).0 q)

  bound_short : (n : ℕ) → length (text_of (as_line (bound_text s n))) ≤ 8192
  unfolding bound_text text_of
  bound_short n = go (live s n) refl
    where
      go : (b : Bool) → live s n ≡ b → length (text_of (as_line (cond b
          (letters "bound " ∷ decimal (delay_bound s n) ∷ letters " deadline " ∷ decimal (get_or s.deadlines n 0) ∷ []) (letters "not live" ∷ [])))) ≤ 8192
      go true on =
          let deadline = deadline_figure s ((passes_sound s).0 e) n on in
          let bound : Figure (delay_bound s n) = record { is = omega (arith, bound_within s e n on, deadline.is) } in
          omega (arith, bound_line _ _ bound deadline)
      go false off = omega arith

  plan_shown : length (text_of (as_line (plan_text s))) ≤ 8192
  unfolding plan_text
  plan_shown = rw e (line_short (hex_text (plan_bytes s)) 2289 (omega (arith, hex_short (plan_bytes s), plan_short s e)) (omega arith))

  schedule_shown_lem : length (text_of (as_line (schedule_shown s))) ≤ 8192
  unfolding schedule_shown schedule_of
  schedule_shown_lem =
      let size : length (schedule_bytes (schedule_of s)) ≤ 379
      = omega (arith, schedule_size_lem (schedule_of s) (schedule_size 17) refl, links_few (schedule_of s) (schedule_size 17) refl (passes_few s e)) in
      rw e (line_short (hex_text (schedule_bytes (schedule_of s))) 1137 (omega (arith, hex_short (schedule_bytes (schedule_of s)), size)) (omega arith))

-- Every line's answer.
pub answers_short : (asked : Asked) (σ : State) → passes_of σ.site ≡ true → Small σ → length (text_of (answered_to asked σ).text) ≤ 8192
unfolding answered_to carried_out question_text text_of
answers_short asked σ e small = go asked.line
  where
    question : (q : Question) → length (text_of (question_text q σ.site σ.counters)) ≤ 8192
    question (Sender parent t) = sender_short σ.site e parent t
    question (Cells n) = cells_short σ.counters n small
    question (Bound n) = bound_short σ.site e n
    question Plan = plan_shown σ.site e
    question Schedule = schedule_shown_lem σ.site e
    question Show = site_short σ.site ((passes_sound σ.site).0 e)
    question Typed = typed_whole σ.site ((passes_sound σ.site).0 e)

    go : (line : Line) → length (text_of (carried_out line asked.arrivals σ).text) ≤ 8192
    go PassedOver = omega arith
    go (Makes call) = verdict_short σ ((passes_sound σ.site).0 e) (call_of call asked.arrivals)
    go (Asks q) = question q
    go Malformed = omega arith
