-- Each of the eleven functions answers by the first of its checks that fails, and where none does with the value that its words name.
use Prim.Native.Nat.{ℕ, ◌+◌, ◌*◌, ◌≤◌, ◌<◌}
use mathlib.Core.Path.{◌≡◌, refl, sym, ◌∙◌, ap}
use mathlib.Core.Bool.{Bool, true, false, not, cond, false≢true}
use mathlib.Core.List.{List}
use mathlib.Core.Logic.{◌⊎◌, inl, inr, ⊎_elim, ◌↔◌}
use lib.Dec.{eqb, ltb}
use lib.ListN.{length}
use borrow.Author.Tests.{lt-ltb, ltb-true, eq-eqb, eqb-true, eqb-false, not-true}
use native.Mathlib.Omega.{arith}
use Rattle.rulings.specs.Outcome.{Outcome, Ruling, accepted, refused, settled, Checks, none, check, Ruled, nothing}
use Rattle.rulings.proofs.Laws.Outcomes.{ruled_test, ruled_end}
use Rattle.site.specs.declared.Site.{Site}
use Rattle.site.specs.declared.Flow.{Flow}
use Rattle.site.specs.Sites.{live, flow_count, with_flow, without_flow}
use Rattle.lists.proofs.Laws.Search.{lt_or_le}
use Rattle.slot_rule.specs.Rule.{base}
use Rattle.slot_rule.specs.Assign.{first_bad, assigned}
use Rattle.slot_rule.specs.Words.{LargestFit, NoneFits}
use Rattle.slot_rule.proofs.Laws.Bases.{base_fits, base_none, tried_hit}
use Rattle.slot_rule.proofs.Laws.Checks.{gap_limits, bad_limits}
use Rattle.slices.specs.Written.{written, handed}
use Rattle.limits.specs.Words.{flow_checks}
use Rattle.reservations.specs.Reservations.{delay_bound}
use Rattle.reservations.specs.Words.{UnfitAt}
use Rattle.flow_checks.specs.Flows.{route_for, number_ruling}
use Rattle.slot_checks.specs.Words.{Overflows, Unexpected, Lowest}
use Rattle.site_check.specs.Check.{passes_of, written_if}
use Rattle.site_check.proofs.Laws.{passes_sound, flow_taken}
use Rattle.format.specs.Words.{Bytes}
use Rattle.schedule_check.specs.declared.Schedule.{Schedule}
use Rattle.schedule_check.specs.Schedules.{of_lists}
use Rattle.schedule_check.specs.Check.{schedule_passes}
use Rattle.schedule_check.specs.Words.{Listed}
use Rattle.schedule_check.proofs.Laws.{passes_listed}
use Rattle.schedule_reader.specs.Read.{schedule_read}
use Rattle.schedule_writer.specs.Write.{schedule_of, schedule_bytes}
use Rattle.plan_reader.specs.Read.{read_of}
use Rattle.plan_writer.specs.Write.{plan_bytes}
use Rattle.admission.specs.Calls.{change, admit_ruling, admit_of, release_ruling, release_of}
use Rattle.admission.specs.Words.{bound_for}
use Rattle.admission.proofs.Laws.{admits_when, release_judged, admits_first, admitted_passes}
use Rattle.moves.specs.Moves.{recounted}
use Rattle.simulation.specs.Slot.{slot_ruling, start_ruling, slot_of, start_of}
use Rattle.simulation.proofs.Laws.{slots_first, starts_first}
use Rattle.sender.specs.Sender.{lookup_of, sending_child}
use Rattle.sender.proofs.Laws.{sender_looks, child_when}
use Rattle.sender.specs.Words.{SendingChild}
use Rattle.host_answers.specs.Answers.{valued}
use Rattle.host_answers.specs.Calls.{of_length}
use Rattle.host_answers.proofs.Laws.Calls.{read_standing, by_yes, by_no}
use Rattle.host_calls.specs.Calls.{plan_read_from, schedule_from, answered, start_from, slot_from, sender_from, bound_from}
use Rattle.host_changes.specs.Changes.{stored_with, rewritten, admit_from, release_from}
use Rattle.host_lists.specs.Lists.{links_of, schedule_read_from, schedule_written_from}
use Rattle.host_runs.specs.Words.{length_checks, room_check, plan_checks, file_checks, on_read, standing_checks, number_checks, FirstOutside, OfPlan}
use Rattle.host_runs.proofs.Laws.Asked.{check_passes, check_fails, check_test, check_length, check_standing, check_room}
use Rattle.host_runs.proofs.Laws.Asked.{ruled_on, following, RuledBy, ruled_behind, ruled_then}
use Rattle.host_runs.proofs.Laws.Reading.{plan_first, file_first}

-- Bytes read to one site.
of_plan : (plan : List ℕ) (s : Site) → read_of plan ≡ accepted s → (P : Site → Type 0) → OfPlan plan P → P s
of_plan plan s e P (t, d, w) = let z : t ≡ s = cc in rw (← z) w

-- A value that is said of the site.
abbrev Valued : List ℕ → (Site → ℕ) → ℕ → Type 0
Valued plan value v = OfPlan plan (λ s. v ≡ value s)

-- Reading a plan.
pub read_plan_first : (plan : List ℕ) → Bytes plan → (o : Outcome ℕ)
    → (plan_read_from plan ≡ o) ↔ Ruled (Valued plan (λ s. s.links + 256 * flow_count s)) (plan_checks plan none) o
unfolding plan_read_from
read_plan_first plan small o =
    plan_first _ o _ plan small (λ n p e. sym (by_no (read_of plan) _ _ n p e)) none
    (λ s e. rw (← by_yes (read_of plan) (λ (t : Site). accepted (t.links + 256 * flow_count t)) (λ n p. refused n p) s e)
    (ruled_end _ o _ (s, e, refl) (λ v w. of_plan plan s e _ w)))

-- A writer, where 14 was asked, and where it is asked by words that say just what its test says.
handed_on : (p : Bool) (bytes out : List ℕ) → p ≡ true → handed p bytes out ≡ written bytes out
unfolding handed
handed_on p bytes out e = rw e

handed_first : (gives : ℕ → Type 0) (o : Outcome ℕ) (p : Bool) (bytes out : List ℕ) (Passes : Type 0) → ((p ≡ true) ↔ Passes)
    → gives (length bytes) → ((n : ℕ) → gives n → n ≡ length bytes)
    → ((handed p bytes out).0 ≡ o) ↔ Ruled gives (check 14 (λ q. (Passes → ⊥) × (q ≡ 0)) (room_check bytes out)) o
unfolding handed
handed_first gives o p bytes out Passes when is once = go p refl
  where
    go : (t : Bool) → p ≡ t → ((handed p bytes out).0 ≡ o) ↔ Ruled gives (check 14 (λ q. (Passes → ⊥) × (q ≡ 0)) (room_check bytes out)) o
    go true e = rw e (check_passes gives o _ 14 _ _ (λ q f. f.0 (when.0 e)) (check_room gives o bytes out is once))
    go false e = rw e (check_fails gives o 14 0 _ _ (λ w. false≢true (sym e ∙ when.1 w), refl) (λ q f. f.1))

-- The schedule of a plan.
schedule_no : (plan out : List ℕ) (n p : ℕ) → read_of plan ≡ refused n p → (refused n p, out) ≡ schedule_from plan out
unfolding schedule_from
schedule_no plan out n p e = by_no (read_of plan) _ _ n p e

schedule_yes : (plan out : List ℕ) (s : Site) → read_of plan ≡ accepted s → written_if s (schedule_bytes (schedule_of s)) out ≡ schedule_from plan out
unfolding schedule_from
schedule_yes plan out s e = by_yes (read_of plan) _ _ s e

pub schedule_first : (plan out : List ℕ) → Bytes plan → (o : Outcome ℕ)
    → ((schedule_from plan out).0 ≡ o) ↔ Ruled (Valued plan (λ s. length (schedule_bytes (schedule_of s))))
    (plan_checks plan (on_read (read_of plan) (λ s. room_check (schedule_bytes (schedule_of s)) out))) o
schedule_first plan out small o =
    plan_first _ o _ plan small (λ n p e. ap (λ (w : Outcome ℕ × List ℕ). w.0) (sym (schedule_no plan out n p e))) _
    (λ s e. ruled_on _ o _ plan s _ e
    (rw (← schedule_yes plan out s e, handed_on (passes_of s) (schedule_bytes (schedule_of s)) out (read_standing plan small s e))
    (check_room _ o _ out (s, e, refl) (λ v w. of_plan plan s e _ w))))

-- Reading a schedule file, and writing one.
pub read_schedule_first : (file offsets periods : List ℕ) → Bytes file → (o : Outcome ℕ)
    → ((schedule_read_from file offsets periods).0 ≡ o) ↔ Ruled (λ v. (s : Schedule) × (schedule_read file ≡ accepted s) × (v ≡ s.links))
    (length_checks offsets 63 (length_checks periods 63 (file_checks file))) o
unfolding schedule_read_from
read_schedule_first file offsets periods small o =
    check_length _ o first offsets 63 _ _ _ refl
    (λ _. check_length _ o first periods 63 _ _ _ refl
    (λ _. file_first _ o _ file small (λ n p e. ap first (sym (by_no (schedule_read file) links_of _ n p e)))
    (λ s e. rw (← by_yes (schedule_read file) links_of (λ n p. (refused n p, offsets, periods)) s e)
    (ruled_end _ o s.links (s, e, refl) (λ v w. only s e v w)))))
  where
    first : Outcome ℕ × List ℕ × List ℕ → Outcome ℕ
    first w = w.0

    only : (s : Schedule) → schedule_read file ≡ accepted s → (v : ℕ) → (t : Schedule) × (schedule_read file ≡ accepted t) × (v ≡ t.links) → v ≡ s.links
    only s e v (t, d, w) = let z : t ≡ s = cc in rw (← z) w

pub write_schedule_first : (links : ℕ) (offsets periods out : List ℕ) (o : Outcome ℕ)
    → ((schedule_written_from links offsets periods out).0 ≡ o) ↔ Ruled (λ v. v ≡ length (schedule_bytes (of_lists links offsets periods)))
    (length_checks offsets 63 (length_checks periods 63
    (check 14 (λ p. (Listed (of_lists links offsets periods) → ⊥) × (p ≡ 0)) (room_check (schedule_bytes (of_lists links offsets periods)) out)))) o
unfolding schedule_written_from
write_schedule_first links offsets periods out o =
    check_length _ o (λ (w : Outcome ℕ × List ℕ). w.0) offsets 63 _ _ _ refl
    (λ _. check_length _ o (λ (w : Outcome ℕ × List ℕ). w.0) periods 63 _ _ _ refl
    (λ _. handed_first _ o (schedule_passes (of_lists links offsets periods)) (schedule_bytes (of_lists links offsets periods)) out _
    (passes_listed (of_lists links offsets periods)) refl (λ n w. w)))

-- What a change answers: its ruling where that refuses, and else what the writer of the new plan answers.
stored_as : (w : Outcome ℕ × List ℕ) (new counters : List ℕ) → (stored_with w new counters).0 ≡ w.0
unfolding stored_with
stored_as (accepted size, bytes) new counters = refl
stored_as (refused number place, bytes) new counters = refl

module _ (r : Ruling) (next s : Site) (new counters out : List ℕ) where
  change_no : (n p : ℕ) → r ≡ refused n p → (rewritten (change r next s new counters) counters out).0 ≡ refused n p
  unfolding change rewritten
  change_no n p e = rw e

  change_yes : r ≡ accepted tt → passes_of next ≡ true → (rewritten (change r next s new counters) counters out).0 ≡ (written (plan_bytes next) out).0
  unfolding change rewritten settled
  change_yes e passes =
      rw e (stored_as (written_if next (plan_bytes next) out) new counters ∙ ap (λ (w : Outcome ℕ × List ℕ). w.0) (handed_on _ (plan_bytes next) out passes))

  change_first : (gives : ℕ → Type 0) (o : Outcome ℕ) (cs : Checks) → RuledBy r cs → (r ≡ accepted tt → passes_of next ≡ true)
      → gives (length (plan_bytes next)) → ((n : ℕ) → gives n → n ≡ length (plan_bytes next))
      → ((rewritten (change r next s new counters) counters out).0 ≡ o) ↔ Ruled gives (following cs (room_check (plan_bytes next) out)) o
  change_first gives o cs asked passes is once =
      ruled_then gives o _ r cs (room_check (plan_bytes next) out) asked change_no (λ e. rw (change_yes e (passes e)) (check_room gives o (plan_bytes next) out is once))

-- 5 and 16, of a number that is to be live.
number_first : (s : Site) (n : ℕ) → RuledBy (number_ruling s n) (number_checks s n none)
unfolding number_ruling
number_first s n o =
    ruled_test nothing o (ltb 63 n) 5 0 _ _ _ (ltb-true _ _, lt-ltb _ _)
    (λ _. ruled_test nothing o (not (live s n)) 16 n _ none _ (not-true _, λ e. rw e)
    (λ _. ruled_end nothing o tt tt (λ b w. refl)))

-- Admission and release. The checks 1 and 14 of the operations themselves do not fail on a site that was read.
pub admit_first : (plan counters : List ℕ) (f : Flow) (out : List ℕ) → Bytes plan → (o : Outcome ℕ)
    → ((admit_from plan counters f out).0 ≡ o) ↔ Ruled (Valued plan (λ s. length (plan_bytes (with_flow s f))))
    (length_checks counters 576 (standing_checks plan (λ s. flow_checks s.links f
    (check 15 (λ p. (live s f.number ≡ true) × (p ≡ f.number))
    (check 17 (λ p. UnfitAt s f.rate (route_for s f) p)
    (check 18 (λ p. (f.deadline < bound_for s f) × (p ≡ f.number))
    (room_check (plan_bytes (with_flow s f)) out))))))) o
unfolding admit_from admit_of following
admit_first plan counters f out small o =
    check_length _ o (λ (w : Outcome ℕ × List ℕ × List ℕ). w.0) counters 576 _ _ _ refl
    (λ long. check_standing _ o (λ (w : Outcome ℕ × List ℕ × List ℕ). w.0) plan _ _ _ refl
    (λ s e. change_first (admit_ruling s counters f) (with_flow s f) s _ counters out _ o _
    (ruled_behind _ 14 _ _ (λ p w. w.0 ((passes_sound s).0 (read_standing plan small s e)))
    (ruled_behind _ 1 _ _ (λ p w. w.0 long) (admits_first s counters f)))
    (λ yes. admitted_passes s counters f ((admits_when s counters f).0 yes)) (s, e, refl) (λ v w. of_plan plan s e _ w)))

pub release_first : (plan counters : List ℕ) (n : ℕ) (out : List ℕ) → Bytes plan → (o : Outcome ℕ)
    → ((release_from plan counters n out).0 ≡ o) ↔ Ruled (Valued plan (λ s. length (plan_bytes (without_flow s n))))
    (length_checks counters 576 (standing_checks plan (λ s. number_checks s n (room_check (plan_bytes (without_flow s n)) out)))) o
unfolding release_from release_of following
release_first plan counters n out small o =
    check_length _ o (λ (w : Outcome ℕ × List ℕ × List ℕ). w.0) counters 576 _ _ _ refl
    (λ long. check_standing _ o (λ (w : Outcome ℕ × List ℕ × List ℕ). w.0) plan _ _ _ refl
    (λ s e. change_first (release_ruling s counters n) (without_flow s n) s _ counters out _ o (number_checks s n none)
    (λ r. rw (release_judged s counters long (read_standing plan small s e) n) (number_first s n r))
    (λ yes. flow_taken s (read_standing plan small s e) n) (s, e, refl) (λ v w. of_plan plan s e _ w)))

-- A ruling with a value beside it.
valued_first : (gives : ℕ → Type 0) (o : Outcome ℕ) (r : Ruling) (value : ℕ) (cs : Checks) → RuledBy r cs → gives value → ((n : ℕ) → gives n → n ≡ value)
    → (valued r value ≡ o) ↔ Ruled gives (following cs none) o
unfolding valued
valued_first gives o r value cs asked is once = ruled_then gives o (valued r value) r cs none asked (λ n p e. rw e) (λ e. rw e (ruled_end gives o value is once))

-- A start and a slot.
pub start_first : (plan counters : List ℕ) → Bytes plan → (o : Outcome ℕ)
    → ((start_from plan counters).0 ≡ o) ↔ Ruled (λ v. v ≡ 0) (length_checks counters 576 (standing_checks plan (λ s. none))) o
unfolding start_from start_of recounted answered following
start_first plan counters small o =
    check_length _ o (λ (w : Outcome ℕ × List ℕ). w.0) counters 576 _ _ _ refl
    (λ long. check_standing _ o (λ (w : Outcome ℕ × List ℕ). w.0) plan _ _ _ refl
    (λ s e. valued_first _ o (start_ruling s counters) 0 _
    (ruled_behind _ 14 _ _ (λ p w. w.0 ((passes_sound s).0 (read_standing plan small s e)))
    (ruled_behind _ 1 _ _ (λ p w. w.0 long) (starts_first s counters)))
    refl (λ v w. w)))

pub slot_first : (plan counters arrivals : List ℕ) (t : ℕ) → Bytes plan → (o : Outcome ℕ)
    → ((slot_from plan counters arrivals t).0 ≡ o) ↔ Ruled (λ v. v ≡ 0)
    (length_checks counters 576 (length_checks arrivals 64
    (standing_checks plan (λ s. check 19 (λ p. Lowest (Overflows s counters arrivals) p)
    (check 20 (λ p. Lowest (Unexpected s arrivals) p) none))))) o
unfolding slot_from slot_of recounted answered following
slot_first plan counters arrivals t small o =
    check_length _ o (λ (w : Outcome ℕ × List ℕ). w.0) counters 576 _ _ _ refl
    (λ long. check_length _ o (λ (w : Outcome ℕ × List ℕ). w.0) arrivals 64 _ _ _ refl
    (λ listed. check_standing _ o (λ (w : Outcome ℕ × List ℕ). w.0) plan _ _ _ refl
    (λ s e. valued_first _ o (slot_ruling s counters arrivals) 0 _
    (ruled_behind _ 14 _ _ (λ p w. w.0 ((passes_sound s).0 (read_standing plan small s e)))
    (ruled_behind _ 1 _ _ (λ p w. w.0 long) (ruled_behind _ 1 _ _ (λ p w. w.0 listed) (slots_first s counters arrivals))))
    refl (λ v w. w))))

-- The lookup.
pub sender_first : (plan : List ℕ) (parent t : ℕ) → Bytes plan → (o : Outcome ℕ)
    → (sender_from plan parent t ≡ o) ↔ Ruled (λ v. OfPlan plan (λ s. SendingChild s parent t v))
    (standing_checks plan (λ s. check 6 (λ p. (s.links < parent) × (p ≡ 0)) none)) o
unfolding sender_from lookup_of
sender_first plan parent t small o =
    check_standing _ o (λ (w : Outcome ℕ). w) plan _ _ _ refl
    (λ s e. let passes = read_standing plan small s e in
    rw (sender_looks s parent t passes)
    (ruled_test _ o (ltb s.links parent) 6 0 _ none _ (ltb-true _ _, lt-ltb _ _)
    (λ _. ruled_end _ o (sending_child s parent t) (s, e, (child_when s passes parent t _).0 refl)
    (λ c w. sym ((child_when s passes parent t c).1 (of_plan plan s e _ w))))))

-- G of a live flow.
pub bound_first : (plan : List ℕ) (n : ℕ) → Bytes plan → (o : Outcome ℕ)
    → (bound_from plan n ≡ o) ↔ Ruled (Valued plan (λ s. delay_bound s n)) (standing_checks plan (λ s. number_checks s n none)) o
unfolding bound_from following
bound_first plan n small o =
    check_standing _ o (λ (w : Outcome ℕ). w) plan _ _ _ refl
    (λ s e. valued_first _ o (number_ruling s n) (delay_bound s n) _ (number_first s n) (s, e, refl) (λ v w. of_plan plan s e _ w))

-- The slot rule alone.
module _ (gaps : List ℕ) where
  first_outside : (ltb (first_bad gaps) (length gaps) ≡ true → FirstOutside gaps (first_bad gaps))
      × ((p : ℕ) → FirstOutside gaps p → (ltb (first_bad gaps) (length gaps) ≡ true) × (p ≡ first_bad gaps))
  first_outside = (
    λ e. record { within = ltb-true _ _ e; here = bad_limits gaps (ltb-true _ _ e); before = λ i l. gap_limits gaps i l },
    λ p w. let l = reaches p w in
        let m : first_bad gaps < length gaps = omega (arith, l, w.within) in
        (lt-ltb _ _ m, same p w (lt_or_le (first_bad gaps) p)),
  )
    where
      reaches : (p : ℕ) → FirstOutside gaps p → first_bad gaps ≤ p
      reaches p w = go (lt_or_le p (first_bad gaps))
        where
          go : (p < first_bad gaps) ⊎ (first_bad gaps ≤ p) → first_bad gaps ≤ p
          go (inl l) = absurd (w.here (gap_limits gaps p l))
          go (inr l) = l

      same : (p : ℕ) → FirstOutside gaps p → (first_bad gaps < p) ⊎ (p ≤ first_bad gaps) → p ≡ first_bad gaps
      same p w (inl l) = absurd (bad_limits gaps (omega (arith, l, w.within)) (w.before (first_bad gaps) l))
      same p w (inr l) = omega (arith, l, reaches p w)

  pub assign_first : (offsets periods : List ℕ) (o : Outcome ℕ)
      → ((assigned 2 gaps offsets periods).0 ≡ o) ↔ Ruled (λ b. LargestFit 2 gaps b)
      (length_checks offsets (length gaps) (length_checks periods (length gaps)
      (check 5 (λ p. ((length gaps ≡ 0) ⊎ (63 < length gaps)) × (p ≡ 0)) (check 5 (λ p. FirstOutside gaps p)
      (check 11 (λ p. NoneFits 2 gaps × (p ≡ 0)) none))))) o
  unfolding assigned of_length
  assign_first offsets periods o =
      check_length _ o outcome offsets (length gaps) _ _ _ refl
      (λ _. check_length _ o outcome periods (length gaps) _ _ _ refl
      (λ _. counted (eqb (length gaps) 0) refl (ltb 63 (length gaps)) refl _ _
      (check_test _ o outcome (ltb (first_bad gaps) (length gaps)) _ _ 5 (first_bad gaps) _ _ refl first_outside.0 first_outside.1
      (λ _. check_test _ o outcome (eqb (base 2 gaps) 0) _ _ 11 0 _ none refl
      (λ e. ((base_none 2 (omega arith) gaps).0 (eqb-true _ _ e), refl)) (λ p w. (eq-eqb _ _ ((base_none 2 (omega arith) gaps).1 w.0), w.1))
      (λ e. ruled_end _ o (base 2 gaps) (base_fits 2 (omega arith) gaps (some e)) largest)))))
    where
      outcome : Outcome ℕ × List ℕ × List ℕ → Outcome ℕ
      outcome w = w.0

      some : eqb (base 2 gaps) 0 ≡ false → 1 ≤ base 2 gaps
      some e = let n = eqb-false (base 2 gaps) 0 e in omega (arith, n)

      largest : (b : ℕ) → LargestFit 2 gaps b → b ≡ base 2 gaps
      largest b (one, within, fit, larger) = tried_hit 2 (omega arith) gaps b (record { within = within; none = larger }) fit

      counted : (x : Bool) → eqb (length gaps) 0 ≡ x → (y : Bool) → ltb 63 (length gaps) ≡ y → (rest : Outcome ℕ × List ℕ × List ℕ) (cs : Checks)
          → (outcome rest ≡ o) ↔ Ruled (λ b. LargestFit 2 gaps b) cs o
          → (outcome (cond x (refused 5 0, offsets, periods) (cond y (refused 5 0, offsets, periods) rest)) ≡ o)
          ↔ Ruled (λ b. LargestFit 2 gaps b) (check 5 (λ p. ((length gaps ≡ 0) ⊎ (63 < length gaps)) × (p ≡ 0)) cs) o
      counted true e y d rest cs w = check_fails _ o 5 0 _ _ (inl (eqb-true _ _ e), refl) (λ p f. f.1)
      counted false e true d rest cs w = check_fails _ o 5 0 _ _ (inr (ltb-true _ _ d), refl) (λ p f. f.1)
      counted false e false d rest cs w =
          check_passes _ o _ 5 _ _ (λ p f. ⊎_elim (λ z. false≢true (sym e ∙ eq-eqb _ _ z)) (λ l. false≢true (sym d ∙ lt-ltb _ _ l)) f.0) w
