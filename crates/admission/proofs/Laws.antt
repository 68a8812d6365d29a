-- What is proved of admission and release: when each is accepted, which check refuses it with which place, what each leaves, and that the one undoes the other.
-- The modules named here hold a law for each answer of the code, and the lemmas.
pub mod Answers
pub mod Again
use Prim.Native.Nat.{ℕ, zero, suc, ◌+◌, ◌*◌, ◌≤◌, ◌<◌}
use mathlib.Core.Path.{◌≡◌, refl, sym, ◌∙◌, ap}
use mathlib.Core.Bool.{Bool, true, not, ◌||◌}
use mathlib.Core.List.{List, []}
use mathlib.Core.Logic.{◌↔◌}
use lib.Dec.{eqb, ltb}
use lib.ListN.{length, get_or}
use lib.Seq.{get_or-set_same}
use borrow.Author.Tests.{lt-ltb, ne_eqb, ltb-true, ltb-false, eqb-true, eqb-false, not-true, not-false}
use native.Mathlib.Omega.{arith}
use Rattle.rulings.specs.Outcome.{Ruling, accepted, refused, checked, settled, none, Ruled, nothing}
use Rattle.rulings.proofs.Laws.Outcomes.{past, checked_pass, checked_past, settled_accepted, settled_refused, ruled_check, ruled_test, ruled_end}
use Rattle.site.specs.declared.Site.{Site}
use Rattle.site.specs.declared.Flow.{Flow}
use Rattle.site.specs.Sites.{empty_site, live, with_flow, without_flow}
use Rattle.reservations.specs.Reservations.{periods_judged, route_of, width_at, along, delay_bound}
use Rattle.reservations.specs.Words.{HasRoom, UnfitAt}
use Rattle.reservations.proofs.Laws.{unfit_when}
use Rattle.tree.proofs.Laws.Tree.{has_when, route_some}
use Rattle.site.proofs.Laws.Flows.{live_with}
use Rattle.limits.specs.Limits.{misplaced, flow_limits}
use Rattle.limits.specs.Words.{FlowWithin}
use Rattle.site_check.specs.Check.{flow_of, passes_of, call_fault}
use Rattle.site_check.proofs.Laws.{passes_sound, call_when, call_first, flow_first, flow_added_lem, flow_back}
use Rattle.limits.proofs.Laws.Forms.{flow_within_lem, flow_good}
use Rattle.site_check.proofs.Laws.Empty.{empty_passes}
use Rattle.counters.specs.Blocks.{cells_of, with_cells, zeros}
use Rattle.counters.proofs.Laws.{length_with, block_same, block_other, length_zeros}
use Rattle.flow_checks.specs.Flows.{route_for, unfit_link, flow_ruling, number_ruling}
use Rattle.flow_checks.specs.Inner.{flow_ruling_with}
use Rattle.flow_checks.proofs.Laws.{route_room}
use Rattle.flow_checks.proofs.Laws.Answers.{flow_passes, number_passes}
use Rattle.admission.specs.Calls.{change, admit_ruling, admit_of, release_ruling, release_of}
use Rattle.admission.specs.Words.{bound_for, Admissible, Releasable, admission_checks, release_checks}
use Rattle.admission.proofs.Laws.Answers.{call_passes}
use Rattle.admission.proofs.Laws.Again.{again_site, again_admissible}

-- An admission is accepted just when it is as the words say.
pub admits_when : (s : Site) (counters : List ℕ) (f : Flow) → (admit_ruling s counters f ≡ accepted tt) ↔ Admissible s counters f
unfolding flow_ruling flow_ruling_with admit_ruling periods_judged
admits_when s counters f = (
  λ e. let a = checked_past (call_fault s counters) _ e in
      let b = checked_past (flow_limits s.links 0 f) _ a.1 in
      let c = past (live s f.number) 15 f.number _ b.1 in
      let d = past (not (eqb (unfit_link s f) 0)) 17 (unfit_link s f) _ c.1 in
      let g = past (ltb f.deadline (along (periods_judged s) (route_for s f))) 18 f.number _ d.1 in
      let call = (call_when s counters).0 a.0 in
      record {
        counted = call.0;
        sound = call.1;
        good = (flow_good s.links 0 f).0 b.0;
        free = c.0;
        room = (route_room s f).0 (eqb-true _ _ (not-false _ d.0));
        time = ltb-false _ _ g.0;
      },
  λ w. sym (call_passes s counters _ (sym ((call_when s counters).1 (w.counted, w.sound))) _
      (flow_passes (unfit_link s f) s f _ refl ((flow_good s.links 0 f).1 w.good) _ refl w.free _ refl ((route_room s f).1 w.room) _ refl w.time)),
)

-- So its number has nine of the counters.
pub admitted_cells : (s : Site) (counters : List ℕ) (f : Flow) → admit_ruling s counters f ≡ accepted tt → 9 * f.number + 9 ≤ length counters
admitted_cells s counters f e = let w = (admits_when s counters f).0 e in omega (arith, w.counted, w.good.within.number_most)

-- With 576 counters on a site that passes check 14, an admission is judged by its flow alone and a release by its number alone.
module _ (s : Site) (counters : List ℕ) (long : length counters ≡ 576) (e : passes_of s ≡ true) where
  pub admission_judged : (f : Flow) → admit_ruling s counters f ≡ flow_ruling s f
  unfolding admit_ruling
  admission_judged f = checked_pass (call_fault s counters) _ ((call_when s counters).1 (long, (passes_sound s).0 e))

  pub release_judged : (n : ℕ) → release_ruling s counters n ≡ number_ruling s n
  unfolding release_ruling
  release_judged n = checked_pass (call_fault s counters) _ ((call_when s counters).1 (long, (passes_sound s).0 e))

-- So is a release.
pub releases_when : (s : Site) (counters : List ℕ) (n : ℕ) → (release_ruling s counters n ≡ accepted tt) ↔ Releasable s counters n
unfolding number_ruling release_ruling
releases_when s counters n = (
  λ e. let a = checked_past (call_fault s counters) _ e in
      let b = past (ltb 63 n) 5 0 _ a.1 in
      let c = past (not (live s n)) 16 n _ b.1 in
      let call = (call_when s counters).0 a.0 in
      record { counted = call.0; sound = call.1; few = ltb-false _ _ b.0; living = not-false _ c.0 },
  λ w. sym (call_passes s counters _ (sym ((call_when s counters).1 (w.counted, w.sound))) _ (number_passes s n w.few (live s n) refl (rw w.living))),
)

pub released_cells : (s : Site) (counters : List ℕ) (n : ℕ) → release_ruling s counters n ≡ accepted tt → 9 * n + 9 ≤ length counters
released_cells s counters n e = let w = (releases_when s counters n).0 e in omega (arith, w.counted, w.few)

-- An admission is refused by the first check that fails, with its place, and accepted where none fails.
pub admits_first : (s : Site) (counters : List ℕ) (f : Flow) (o : Ruling) → (admit_ruling s counters f ≡ o) ↔ Ruled nothing (admission_checks s counters f) o
unfolding flow_ruling admit_ruling periods_judged
admits_first s counters f o =
    call_first nothing o _ _ s counters (flow_first nothing o _ _ s.links f
    (ruled_test nothing o (live s f.number) 15 f.number _ _ _ (λ e. e, λ e. e)
    (λ _. ruled_check nothing o (not (eqb (unfit_link s f) 0)) 17 (unfit_link s f) (λ p. UnfitAt s f.rate (route_for s f) p) _ _
    (λ e. (unfit_when s f.rate (route_for s f) (unfit_link s f) (some e)).0 refl)
    (λ p w. unfit p w ((unfit_when s f.rate (route_for s f) p (above p w)).1 w))
    (λ _. ruled_test nothing o (ltb f.deadline (along (periods_judged s) (route_for s f))) 18 f.number _ none _ (ltb-true _ _, lt-ltb _ _)
    (λ _. ruled_end nothing o tt tt (λ b w. refl))))))
  where
    some : not (eqb (unfit_link s f) 0) ≡ true → 1 ≤ unfit_link s f
    some e = let n = eqb-false (unfit_link s f) 0 (not-true _ e) in omega (arith, n)

    above : (p : ℕ) → UnfitAt s f.rate (route_for s f) p → 1 ≤ p
    above p w = rw w.link.1 at (route_some s.parents f.entry w.at w.link.0)

    unfit : (p : ℕ) → UnfitAt s f.rate (route_for s f) p → unfit_link s f ≡ p → (not (eqb (unfit_link s f) 0) ≡ true) × (p ≡ unfit_link s f)
    unfit p w e = let l = above p w in let n : unfit_link s f ≡ 0 → ⊥ = λ z. omega (arith, l, e, z) in (simp (ne_eqb _ _ n), sym e)

-- So is a release.
pub releases_first : (s : Site) (counters : List ℕ) (n : ℕ) (o : Ruling) → (release_ruling s counters n ≡ o) ↔ Ruled nothing (release_checks s counters n) o
unfolding number_ruling release_ruling
releases_first s counters n o =
    call_first nothing o _ _ s counters
    (ruled_test nothing o (ltb 63 n) 5 0 _ _ _ (ltb-true _ _, lt-ltb _ _)
    (λ _. ruled_test nothing o (not (live s n)) 16 n _ none _ (not-true _, λ e. rw e)
    (λ _. ruled_end nothing o tt tt (λ b w. refl))))

-- 02, U2: the number that 18 judges is G, as the flow has it once it is live.
pub bound_asked : (s : Site) → passes_of s ≡ true → (f : Flow) → f.number ≤ 63 → delay_bound (with_flow s f) f.number ≡ bound_for s f
unfolding delay_bound route_of with_flow
bound_asked s e f few = rw (get_or-set_same s.entries f.number f.entry 0 (omega (arith, ((passes_sound s).0 e).formed.shape.entries)))

-- 02, U3. Nobody enters at the site without links: 6 refuses every flow that 1 and 5 let pass, and nothing changes.
pub admit_unlinked : (counters : List ℕ) (f : Flow) → length counters ≡ 576 → FlowWithin f → admit_of empty_site counters f ≡ (refused 6 0, empty_site, counters)
unfolding admit_of admit_ruling flow_ruling flow_limits misplaced change settled checked
admit_unlinked counters f long within =
    rw ((call_when empty_site counters).1 (long, (passes_sound empty_site).0 empty_passes), (flow_within_lem f).1 within, nowhere f.entry (ltb f.number 0))
  where
    nowhere : (entry : ℕ) (low : Bool) → (eqb entry 0 || (ltb 0 entry || low)) ≡ true
    nowhere zero low = refl
    nowhere (suc entry) low = let some : suc entry ≡ 0 → ⊥ = omega arith in rw (ne_eqb (suc entry) 0 some, lt-ltb 0 (suc entry) (omega arith))

-- What a change tells that was accepted, and one that was refused: by any ruling.
module _ (r : Ruling) (next s t : Site) (new counters ds : List ℕ) where
  change_accepted : (accepted tt, t, ds) ≡ change r next s new counters → (r ≡ accepted tt) × (t ≡ next) × (ds ≡ new)
  unfolding change
  change_accepted e =
      let a : accepted tt ≡ r = ap (λ (q : Ruling × Site × List ℕ). q.0) e in (
        sym a,
        ap (λ (q : Ruling × Site × List ℕ). q.1) e ∙ settled_accepted r next s a,
        ap (λ (q : Ruling × Site × List ℕ). q.2) e ∙ settled_accepted r new counters a,
      )

  change_refused : (number place : ℕ) → (refused number place, t, ds) ≡ change r next s new counters → (t ≡ s) × (ds ≡ counters)
  unfolding change
  change_refused number place e =
      let a : refused number place ≡ r = ap (λ (q : Ruling × Site × List ℕ). q.0) e in (
        ap (λ (q : Ruling × Site × List ℕ). q.1) e ∙ settled_refused r next s a,
        ap (λ (q : Ruling × Site × List ℕ). q.2) e ∙ settled_refused r new counters a,
      )

  changed : r ≡ accepted tt → change r next s new counters ≡ (accepted tt, next, new)
  unfolding change settled
  changed e = rw e

-- What the calls answer and leave: an accepted one its change, a refused one what was there.
module _ (s t : Site) (counters ds : List ℕ) where
  pub admit_accepted : (f : Flow) → (accepted tt, t, ds) ≡ admit_of s counters f
      → Admissible s counters f × (t ≡ with_flow s f) × (ds ≡ with_cells f.number (zeros 9) counters)
  unfolding admit_of
  admit_accepted f e = let w = change_accepted _ _ s t _ counters ds e in ((admits_when s counters f).0 w.0, w.1, w.2)

  pub admit_refused : (f : Flow) (number place : ℕ) → (refused number place, t, ds) ≡ admit_of s counters f → (t ≡ s) × (ds ≡ counters)
  unfolding admit_of
  admit_refused f number place e = change_refused _ _ s t _ counters ds number place e

  pub release_accepted : (n : ℕ) → (accepted tt, t, ds) ≡ release_of s counters n
      → Releasable s counters n × (t ≡ without_flow s n) × (ds ≡ with_cells n (zeros 9) counters)
  unfolding release_of
  release_accepted n e = let w = change_accepted _ _ s t _ counters ds e in ((releases_when s counters n).0 w.0, w.1, w.2)

  pub release_refused : (n number place : ℕ) → (refused number place, t, ds) ≡ release_of s counters n → (t ≡ s) × (ds ≡ counters)
  unfolding release_of
  release_refused n number place e = change_refused _ _ s t _ counters ds number place e

-- The counters that an accepted call leaves: there are 576 still, the nine cells of its number are 0, and those of every other number as they were.
pub cells_after_lem : (counters : List ℕ) (n : ℕ) → length counters ≡ 576 → n ≤ 63
    → (length (with_cells n (zeros 9) counters) ≡ 576) × (cells_of n (with_cells n (zeros 9) counters) ≡ zeros 9)
    × ((k : ℕ) → (k ≡ n → ⊥) → cells_of k (with_cells n (zeros 9) counters) ≡ cells_of k counters)
unfolding cells_of with_cells
cells_after_lem counters n long few =
    let fits : 9 * n + 9 ≤ length counters = omega arith in (
      length_with 9 n counters fits (zeros 9) (length_zeros 9) ∙ long,
      block_same 9 n counters fits (zeros 9) (length_zeros 9),
      block_other 9 n counters fits (zeros 9) (length_zeros 9),
    )

-- A site that passes check 14 passes it after an accepted admission. (After a release it does by `flow_taken` of crate `site_check`.)
pub admitted_passes : (s : Site) (counters : List ℕ) (f : Flow) → Admissible s counters f → passes_of (with_flow s f) ≡ true
unfolding periods_judged width_at
admitted_passes s counters f w =
    flow_added_lem s ((passes_sound s).1 w.sound) f w.free w.good (λ m h. fits m ((has_when m (route_for s f)).0 h)) w.time
  where
    fits : (m : ℕ) → (j : ℕ) × (j < length (route_for s f)) × (get_or (route_for s f) j 0 ≡ m) → HasRoom s f.rate m
    fits m (j, l, e) = rw e at (w.room.each j l)

-- What was released can be admitted again, with any 576 counters: it is accepted, and the site is the one before the release.
pub released_again : (s : Site) (counters : List ℕ) (n : ℕ) → release_ruling s counters n ≡ accepted tt → (ds : List ℕ) → length ds ≡ 576
    → admit_of (without_flow s n) ds (flow_of s n) ≡ (accepted tt, s, with_cells n (zeros 9) ds)
unfolding admit_of flow_of
released_again s counters n e ds long =
    let w = (releases_when s counters n).0 e in
    changed _ _ _ s _ ds [] ((admits_when _ ds (flow_of s n)).1 (again_admissible s w.sound n w.living ds long))
    ∙ ap (λ (t : Site). (accepted tt, t, with_cells n (zeros 9) ds)) (again_site s n w.living)

-- What was admitted can be released: the site is the one before the admission.
pub admitted_back : (s : Site) (counters : List ℕ) (f : Flow) → admit_ruling s counters f ≡ accepted tt → (ds : List ℕ) → length ds ≡ 576
    → release_of (with_flow s f) ds f.number ≡ (accepted tt, s, with_cells f.number (zeros 9) ds)
unfolding release_of
admitted_back s counters f e ds long =
    let w = (admits_when s counters f).0 e in
    changed _ _ _ s _ ds [] ((releases_when _ ds f.number).1 (record {
      counted = long;
      sound = (passes_sound _).0 (admitted_passes s counters f w);
      few = w.good.within.number_most;
      living = live_with s f (omega (arith, w.good.within.number_most, w.sound.formed.shape.states));
    })) ∙ ap (λ (t : Site). (accepted tt, t, with_cells f.number (zeros 9) ds)) (flow_back s ((passes_sound s).1 w.sound) f w.free)
