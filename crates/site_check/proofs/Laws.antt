-- What is proved of check 14: what a site is that passes it, what a call asks of it, what its slots and routes have, and that flows may come and go.
-- The modules named here hold the lemmas.
pub mod Forms
pub mod Check
pub mod Passing
pub mod Empty
pub mod Flows
use Prim.Native.Nat.{ℕ, ◌+◌, ◌≤◌, ◌<◌}
use mathlib.Core.Path.{◌≡◌, refl, ◌∙◌}
use mathlib.Core.Bool.{Bool, true, false, not, cond, ◌||◌}
use mathlib.Core.List.{List}
use mathlib.Core.Logic.{◌⊎◌, inl, inr, ⊎_elim, ◌↔◌}
use lib.Dec.{eqb, ltb}
use lib.ListN.{length, get_or}
use borrow.Author.Tests.{eq-eqb, eqb-true, eqb-false, ltb-true, ltb-false, not-false}
use native.Mathlib.Omega.{arith}
use Rattle.rulings.specs.Outcome.{Outcome, refused, checked, Checks, Ruled}
use Rattle.rulings.proofs.Laws.Outcomes.{checked_pass, checked_choice, ruled_test}
use Rattle.site.specs.declared.Site.{Site}
use Rattle.site.specs.declared.Flow.{Flow}
use Rattle.tree.specs.Tree.{of_link, route, has}
use Rattle.site.specs.Sites.{live, with_flow, without_flow}
use Rattle.schedule.specs.Schedule.{link_sends}
use Rattle.reservations.specs.Reservations.{periods_judged, route_of, width_at, load, along, delay_bound}
use Rattle.tree.specs.Words.{Leads}
use Rattle.schedule.specs.Words.{Wellgapped, ChildSlots}
use Rattle.schedule.proofs.Laws as slots
use Rattle.tree.proofs.Laws.Tree.{route_leads, route_falls}
use Rattle.limits.specs.Limits.{bad_flow, misplaced, flow_limits}
use Rattle.site_check.specs.Check.{flow_of, passes_of, call_fault}
use Rattle.limits.specs.Words.{FlowGood, flow_checks}
use Rattle.site_check.specs.Words.{Sound, site_checks, call_checks}
use Rattle.rulings.proofs.Laws.Choices.{passed, fails_when, not_when}
use Rattle.limits.proofs.Laws.Forms.{flow_within_lem}
use Rattle.site_check.proofs.Laws.Forms.{formed_gapped}
use Rattle.site_check.proofs.Laws.Passing.{judged_when, passes_parts}
use Rattle.site_check.proofs.Laws.Flows.{live_few, live_fits, parent_below, route_short, without_none, without_with, sound_timed, sound_with}
use Rattle.site_check.proofs.Laws.Flows.{sound_without}

-- Check 14 lets a site pass just when it is as the words say.
pub passes_sound : (s : Site) → (passes_of s ≡ true) ↔ Sound s
passes_sound s = (
  λ e. let w = (passes_parts s).0 e in let j = (judged_when s w.0).0 w.1 in
      record { formed = w.0; served = j.0; carried = rw w.2 j.1; punctual = rw w.2 j.2; own = w.2 },
  λ w. (passes_parts s).1
      (w.formed, (judged_when s w.formed).1 (w.served, rw (← w.own) w.carried, rw (← w.own) w.punctual), w.own),
)

-- A site with a gap outside its limits fails the check, whatever `judge` answers for it.
pub ungapped_fails : (s : Site) → (Wellgapped s → ⊥) → passes_of s ≡ false
ungapped_fails s n = go (passes_of s) refl
  where
    go : (t : Bool) → passes_of s ≡ t → t ≡ false
    go true e = absurd (n (formed_gapped s ((passes_sound s).0 e).formed))
    go false e = refl

-- A call that is lent counters gets past 1 and 14 just when there are 576 and the site passes.
pub call_when : (s : Site) (counters : List ℕ) → (call_fault s counters ≡ 0) ↔ ((length counters ≡ 576) × Sound s)
unfolding call_fault
call_when s counters = (
  λ e. let a = passed (not (eqb (length counters) 576)) 1 _ (omega arith) e in let b = passed (not (passes_of s)) 14 0 (omega arith) a.1 in
      (eqb-true _ _ (not-false _ a.0), (passes_sound s).0 (not-false _ b.0)),
  λ w. simp (eq-eqb (length counters) 576 w.0, (passes_sound s).1 w.1),
)

-- These checks in words, each the first that fails: 14; 1 and 14; 5 and 6 of a flow.
module _ {A : Type 0} (gives : A → Type 0) (o : Outcome A) (rest : Outcome A) (cs : Checks) where
  pub site_first : (s : Site) → (passes_of s ≡ true → (rest ≡ o) ↔ Ruled gives cs o)
      → (cond (not (passes_of s)) (refused 14 0) rest ≡ o) ↔ Ruled gives (site_checks s cs) o
  site_first s behind =
      ruled_test gives o (not (passes_of s)) 14 0 _ cs rest (not_when (passes_of s) _ (passes_sound s)) (λ e. behind (not-false _ e))

  pub call_first : (s : Site) (counters : List ℕ) → (rest ≡ o) ↔ Ruled gives cs o
      → (checked (call_fault s counters) rest ≡ o) ↔ Ruled gives (call_checks s counters cs) o
  unfolding call_fault
  call_first s counters behind =
      rw (
        checked_choice (not (eqb (length counters) 576)) 1 (cond (not (passes_of s)) 14 0) rest (omega arith),
        checked_choice (not (passes_of s)) 14 0 rest (omega arith),
        checked_pass 0 rest refl,
      )
      (ruled_test gives o (not (eqb (length counters) 576)) 1 0 _ (site_checks s cs) (cond (not (passes_of s)) (refused 14 0) rest)
      (not_when (eqb (length counters) 576) _ (eqb-true _ _, eq-eqb _ _)) (λ _. site_first s (λ _. behind)))

  pub flow_first : (links : ℕ) (f : Flow) → (rest ≡ o) ↔ Ruled gives cs o → (checked (flow_limits links 0 f) rest ≡ o) ↔ Ruled gives (flow_checks links f cs) o
  unfolding flow_limits misplaced
  flow_first links f behind =
      rw (
        checked_choice (bad_flow f) 5 (cond (misplaced links 0 f) 6 0) rest (omega arith),
        checked_choice (misplaced links 0 f) 6 0 rest (omega arith),
        checked_pass 0 rest refl,
      )
      (ruled_test gives o (bad_flow f) 5 0 _ _ (cond (misplaced links 0 f) (refused 6 0) rest) (fails_when (bad_flow f) _ (flow_within_lem f))
      (λ _. ruled_test gives o (misplaced links 0 f) 6 0 _ cs rest (wrong (eqb f.entry 0) refl (ltb links f.entry) refl) (λ _. behind)))
    where
      wrong : (a : Bool) → eqb f.entry 0 ≡ a → (b : Bool) → ltb links f.entry ≡ b
          → (a || (b || ltb f.number 0) ≡ true) ↔ ((f.entry ≡ 0) ⊎ (links < f.entry))
      wrong true p b q = (λ e. inl (eqb-true _ _ p), λ w. refl)
      wrong false p true q = (λ e. inr (ltb-true _ _ q), λ w. refl)
      wrong false p false q = (
        λ e. absurd (omega (arith, ltb-true f.number 0 e)),
        ⊎_elim (λ z. absurd (eqb-false _ _ p z)) (λ l. absurd (omega (arith, ltb-false links f.entry q))),
      )

module _ (s : Site) (e : passes_of s ≡ true) where
  sound : Sound s
  sound = (passes_sound s).0 e

  -- It has the schedule of the words: under every parent its children, in their order, have what the slot rule gives the gaps that they want.
  pub passes_slots : ChildSlots s s.offsets s.periods
  passes_slots = let h = sound_timed s sound in (slots.child_slots s h.few h.gapped h.below h.served _ _).0 (h.offsets, h.periods)

  -- 01, The site: two links of one parent share no slot.
  pub siblings_apart : (n m t : ℕ) → (n ≡ m → ⊥) → of_link s.parents n ≡ of_link s.parents m
      → link_sends s n t ≡ true → link_sends s m t ≡ true → ⊥
  siblings_apart = slots.siblings_apart s (sound_timed s sound)

  -- Each link sends exactly once in every run of `period` slots.
  pub link_once : (n start : ℕ) → 1 ≤ n → n ≤ s.links
      → (t : ℕ) × (start ≤ t) × (t < start + of_link s.periods n) × (link_sends s n t ≡ true)
      × ((u : ℕ) → start ≤ u → u < start + of_link s.periods n → link_sends s n u ≡ true → u ≡ t)
  link_once = slots.link_once s (sound_timed s sound)

  -- Its period is at least 1 and at most its wanted gap.
  pub period_within : (n : ℕ) → 1 ≤ n → n ≤ s.links → (1 ≤ of_link s.periods n) × (of_link s.periods n ≤ of_link s.gaps n)
  period_within = slots.period_within s (sound_timed s sound)

  -- G is at most the deadline of every live flow.
  pub bound_within : (n : ℕ) → live s n ≡ true → delay_bound s n ≤ get_or s.deadlines n 0
  bound_within n l = sound.punctual.within n (live_few s sound.formed n l) l

  -- A route reaches the root, has at most 8 links, and its links' numbers fall.
  pub route_whole : (n : ℕ) → live s n ≡ true
      → Leads s.parents (get_or s.entries n 0) (route_of s n) × (length (route_of s n) ≤ 8)
      × ((j : ℕ) → j + 1 < length (route_of s n) → get_or (route_of s n) (j + 1) 0 < get_or (route_of s n) j 0)
  unfolding route_of flow_of
  route_whole n l =
      let f = live_fits s sound.formed n l in (
        route_leads s.parents _ (λ m a b. parent_below s sound.formed m a (omega (arith, f.entry_most))),
        route_short s sound.formed _ f.entry_some f.entry_most,
        route_falls s.parents _,
      )

  -- A flow added within 01's rules leaves a site that check 14 lets pass.
  pub flow_added_lem : (f : Flow) → live s f.number ≡ false → FlowGood s.links 0 f
      → ((m : ℕ) → has m (route s.parents f.entry) ≡ true → load s m + width_at (periods_judged s) f.rate m ≤ of_link s.capacities m)
      → along (periods_judged s) (route s.parents f.entry) ≤ f.deadline
      → passes_of (with_flow s f) ≡ true
  flow_added_lem f free good room time = (passes_sound _).1 (sound_with s sound f free good room time)

  -- So does a flow taken away.
  pub flow_taken : (n : ℕ) → passes_of (without_flow s n) ≡ true
  flow_taken n = (passes_sound _).1 (sound_without s sound n)

  -- Taking back what was added gives the very site.
  pub flow_back : (f : Flow) → live s f.number ≡ false → without_flow (with_flow s f) f.number ≡ s
  flow_back f free = without_with s f ∙ without_none s sound.formed f.number free
