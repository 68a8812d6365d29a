-- Demand 3 for any way of serving the links that the hops of the flow bear out; and the site's own schedule is such a way.
use Prim.Native.Nat.{ℕ, ◌+◌, ◌-◌, ◌*◌, ◌≤◌, ◌<◌}
use mathlib.Core.Path.{◌≡◌, refl, sym, ◌∙◌, ap}
use mathlib.Core.Bool.{true}
use mathlib.Core.List.{List, [], ◌∷◌}
use lib.ListN.{length, get_or}
use native.Mathlib.Nat.{mul-le-mul_left}
use native.Mathlib.Omega.{arith}
use Rattle.rulings.specs.Outcome.{Ruling, accepted, refused, Ruled, nothing}
use Rattle.lists.specs.Lists.{total}
use Rattle.site.specs.declared.Site.{Site}
use Rattle.site.specs.Sites.{live}
use Rattle.tree.specs.Tree.{of_link}
use Rattle.reservations.specs.Reservations.{periods_judged, along}
use Rattle.tree.specs.Words.{Leads, root, link}
use Rattle.schedule.specs.Schedule.{link_sends}
use Rattle.site_check.specs.Check.{passes_of, flow_of}
use Rattle.site_check.proofs.Laws.{passes_sound, link_once, route_whole}
use Rattle.site_check.proofs.Laws.Flows.{live_few, live_fits}
use Rattle.counters.specs.Blocks.{cells_of, zeros}
use Rattle.queues.specs.Cells.{Hop, Entry, steps, waiting, arrivals, span}
use Rattle.queues.specs.Pace.{Serves, All, Rising, Within, paced}
use Rattle.queues.proofs.Laws.Delay.{paced_curve, paced_all, rising_rest, delivered_by, arrivals_kept, waiting_after, waiting_within}
use Rattle.admission.specs.Calls.{change, admit_of, release_of}
use Rattle.admission.proofs.Laws.{admits_first, releases_first}
use Rattle.moves.specs.Hops.{Service, own, hops_along, hops_of}
use Rattle.moves.specs.Moves.{recounted}
use Rattle.simulation.specs.Slot.{slot_of, start_of}
use Rattle.moves.proofs.Laws.{length_along, width_exact}
use Rattle.simulation.proofs.Laws.{slots_first, starts_first}
use Rattle.guarantee.specs.Runs.{Call, slot, admit, release, start, State, Promise, checks_of, Log, Run, none, then}
use Rattle.guarantee.specs.Demand.{entered, slots_of, Stays, NoStart, rate_of, deadline_of, bound_of, Begins, Allowed, Answered, Waits, JoinsIn, Joins, Kept}
use Rattle.guarantee.proofs.Laws.Frame.{Steady, Same, left}

-- The newest call of a list adds its slot to those before it.
steps_entered : (f : ℕ) (c : Call) (r : Ruling) (hs : List Hop) (cs : List ℕ) (s : List Entry)
    → steps hs (steps hs cs s) (entered f c r []) ≡ steps hs cs (entered f c r s)
unfolding steps entered
steps_entered f (slot t xs) (accepted a) hs cs s = refl
steps_entered f (slot t xs) (refused n p) hs cs s = refl
steps_entered f (admit g) r hs cs s = refl
steps_entered f (release m) r hs cs s = refl
steps_entered f start r hs cs s = refl

-- What a list leaves of a flow, from any cells.
pub record Followed (v : Service) (f : ℕ) (σ₀ : State) (l : Log) (σ : State) : Type 0 where
  pub flow : Same v f σ₀.site σ.site
  pub cells : cells_of f σ.counters ≡ steps (hops_of v σ₀.site f) (cells_of f σ₀.counters) (slots_of f l)

module _ (v : Service) (w : Steady v) (f : ℕ) (few : f < 64) (σ₀ : State) (living : live σ₀.site f ≡ true) where
  pub followed : {l : Log} {σ : State} → Run v σ₀ l σ → All (Stays f) l → All NoStart l → Followed v f σ₀ l σ
  unfolding All slots_of steps
  followed none d e = record { flow = record { living = refl; hops = refl; rate = refl; deadline = refl }; cells = refl }
  followed (then {l = l} {σ = σ} c r σ' run p) d e = go (followed run d.1 e.1)
    where
      go : Followed v f σ₀ l σ → Followed v f σ₀ ((c, r) ∷ l) σ'
      go i =
          let n = left v w f few σ σ' (i.flow.living ∙ living) c r p d.0 e.0 in record {
            flow = record {
              living = n.flow.living ∙ i.flow.living;
              hops = n.flow.hops ∙ i.flow.hops;
              rate = n.flow.rate ∙ i.flow.rate;
              deadline = n.flow.deadline ∙ i.flow.deadline;
            };
            cells = n.cells ∙ rw (i.flow.hops, i.cells) (steps_entered f c r _ _ (slots_of f l));
          }

-- From a beginning: the cells come from nine zeros.
pub cells_begun : (v : Service) → Steady v → (f : ℕ) → f < 64 → (σ₀ : State) → Begins f σ₀ → {l : Log} {σ : State} → Run v σ₀ l σ → All (Stays f) l → All NoStart l
    → cells_of f σ.counters ≡ steps (hops_of v σ₀.site f) (zeros 9) (slots_of f l)
cells_begun v w f few σ₀ b run d u = rw b.empty at (followed v w f few σ₀ b.living run d u).cells

-- What is allowed of a list is allowed of the list without its newest call.
rising_before : (f : ℕ) (c : Call) (r : Ruling) (s : List Entry) → Rising (entered f c r s) → Rising s
unfolding entered
rising_before f (slot t xs) (accepted a) s w = rising_rest _ s w
rising_before f (slot t xs) (refused n p) s w = w
rising_before f (admit g) r s w = w
rising_before f (release m) r s w = w
rising_before f start r s w = w

within_before : (f rate : ℕ) (c : Call) (r : Ruling) (s : List Entry) → Within rate (entered f c r s) → Within rate s
unfolding entered All
within_before f rate (slot t xs) (accepted a) s w = w.1
within_before f rate (slot t xs) (refused n p) s w = w
within_before f rate (admit g) r s w = w
within_before f rate (release m) r s w = w
within_before f rate start r s w = w

allowed_before : (f : ℕ) (s : Site) (c : Call) (r : Ruling) (l : Log) → Allowed f s ((c, r) ∷ l) → Allowed f s l
unfolding All slots_of
allowed_before f s c r l w = record {
  stays = w.stays.1;
  unbroken = w.unbroken.1;
  rising = rising_before f c r (slots_of f l) w.rising;
  rated = within_before f (rate_of s f) c r (slots_of f l) w.rated;
}

-- Every answer is that of the checks in words.
pub call_ruled : (v : Service) (c : Call) (σ : State) (r : Ruling) (σ' : State) → Promise v c σ r σ' → Ruled nothing (checks_of c σ) r
unfolding Promise checks_of slot_of admit_of release_of start_of change recounted
call_ruled v (slot t xs) σ r σ' p = (slots_first σ.site σ.counters xs r).0 (sym (ap (λ (q : Ruling × List ℕ). q.0) p.0))
call_ruled v (admit g) σ r σ' p = (admits_first σ.site σ.counters g r).0 (sym (ap (λ (q : Ruling × Site × List ℕ). q.0) p))
call_ruled v (release m) σ r σ' p = (releases_first σ.site σ.counters m r).0 (sym (ap (λ (q : Ruling × Site × List ℕ). q.0) p))
call_ruled v start σ r σ' p = (starts_first σ.site σ.counters r).0 (sym (ap (λ (q : Ruling × List ℕ). q.0) p.0))

answered : {v : Service} {σ₀ : State} {l : Log} {σ : State} (run : Run v σ₀ l σ) → Answered run
unfolding Answered
answered none = tt
answered {v = v} (then {σ = σ} c r σ' run p) = (call_ruled v c σ r σ' p, answered run)

module _ (v : Service) (w : Steady v) (f : ℕ) (few : f < 64) (σ₀ : State) (b : Begins f σ₀)
    (serve : All (Serves (rate_of σ₀.site f)) (hops_of v σ₀.site f)) (some : 1 ≤ length (hops_of v σ₀.site f))
    (short : length (hops_of v σ₀.site f) ≤ 8) where
  cells_are : {l : Log} {σ : State} → Run v σ₀ l σ → Allowed f σ₀.site l
      → cells_of f σ.counters ≡ steps (hops_of v σ₀.site f) (zeros 9) (slots_of f l)
  cells_are run d = cells_begun v w f few σ₀ b run d.stays d.unbroken

  waits_after : {l : Log} {σ : State} → Run v σ₀ l σ → Allowed f σ₀.site l
      → waiting (cells_of f σ.counters) ≤ rate_of σ₀.site f * bound_of v σ₀.site f
  waits_after {l = l} run d =
      let q = rate_of σ₀.site f in let g = bound_of v σ₀.site f in
      let less : bound_of v σ₀.site f - 1 ≤ bound_of v σ₀.site f = omega arith in
      rw (cells_are run d)
      (omega (
        arith,
        mul-le-mul_left q less,
        waiting_after q (paced q) (paced_curve q) (hops_of v σ₀.site f) (slots_of f l) 0 some short serve d.rising
            (omega (arith, paced_all q 0 (slots_of f l) d.rated)),
      ))

  joined_in : {l : Log} {σ : State} (c : Call) (r : Ruling) → Run v σ₀ l σ → Allowed f σ₀.site ((c, r) ∷ l)
      → JoinsIn f (rate_of σ₀.site f * bound_of v σ₀.site f) c r σ
  unfolding JoinsIn slots_of entered arrivals total
  joined_in {l = l} (slot t xs) (accepted a) run d =
      let q = rate_of σ₀.site f in let o = allowed_before f σ₀.site (slot t xs) (accepted a) l d in
      rw (cells_are run o)
      (omega (
        arith,
        waiting_within q (paced q) (paced_curve q) (hops_of v σ₀.site f) (slots_of f l) 0 (get_or xs f 0) some short serve o.rising
            (omega (arith, paced_all q 0 _ d.rated)),
      ))
  joined_in (slot t xs) (refused n p) run d = tt
  joined_in (admit g) r run d = tt
  joined_in (release m) r run d = tt
  joined_in start r run d = tt

  waits_all : {l : Log} {σ : State} (run : Run v σ₀ l σ) → Allowed f σ₀.site l → Waits f (rate_of σ₀.site f * bound_of v σ₀.site f) run
  unfolding Waits
  waits_all none d = waits_after none d
  waits_all (then {l = l} c r σ' run p) d = (waits_after (then c r σ' run p) d, waits_all run (allowed_before f σ₀.site c r l d))

  joins_all : {l : Log} {σ : State} (run : Run v σ₀ l σ) → Allowed f σ₀.site l → Joins f (rate_of σ₀.site f * bound_of v σ₀.site f) run
  unfolding Joins
  joins_all none d = tt
  joins_all (then {l = l} c r σ' run p) d = (joined_in c r run d, joins_all run (allowed_before f σ₀.site c r l d))

  pub demand3_any : bound_of v σ₀.site f ≤ deadline_of σ₀.site f → {l : Log} {σ : State} (run : Run v σ₀ l σ) → Allowed f σ₀.site l → Kept v f σ₀ l σ run
  demand3_any within {l} {σ} run d =
      let q = rate_of σ₀.site f in let e = cells_are run d in record {
        answers = answered run;
        cells = e;
        all = rw e (arrivals_kept (hops_of v σ₀.site f) (slots_of f l) short);
        delay =
            rw e
            (rw (paced_all q (bound_of v σ₀.site f - 1) (slots_of f l) d.rated) at
            (delivered_by q (paced q) (paced_curve q) (hops_of v σ₀.site f) (slots_of f l) some short serve d.rising));
        deadline = within;
        waits = waits_all run d;
        joins = joins_all run d;
      }

-- The site's own schedule goes by its links.
pub own_steady : Steady own
unfolding link_sends periods_judged
own_steady = record { same = λ s n state entry rate deadline. refl }

pub span_along : (s : Site) (rate : ℕ) (ms : List ℕ) → span (hops_along (own s rate) ms) ≡ along s.periods ms
unfolding hops_along span along
span_along s rate [] = refl
span_along s rate (m ∷ ms) = ap (λ (k : ℕ). of_link s.periods m + k) (span_along s rate ms)

-- Its links serve every live flow: each sends once in a period, and the flow's width is just its rate for a period.
module _ (s : Site) (e : passes_of s ≡ true) where
  link_serves : (rate n : ℕ) → 1 ≤ n → n ≤ s.links → Serves rate (own s rate n)
  link_serves rate n a b = record {
    often = λ start. let t = link_once s e n start a b in (t.0, t.1, t.2, t.3);
    wide = omega (arith, width_exact s rate n);
  }

  route_serves : (rate : ℕ) {n : ℕ} {ms : List ℕ} → Leads s.parents n ms → n ≤ s.links → All (Serves rate) (hops_along (own s rate) ms)
  unfolding hops_along All
  route_serves rate root b = tt
  route_serves rate (link n ms l w) b = (link_serves rate n (omega arith) b, route_serves rate w (omega arith))

  leads_some : {n : ℕ} {ms : List ℕ} → Leads s.parents n ms → 1 ≤ n → 1 ≤ length ms
  leads_some root o = absurd (omega arith)
  leads_some (link n ms l w) o = omega arith

  module _ (f : ℕ) (l : live s f ≡ true) where
    pub own_few : f < 64
    own_few = live_few s ((passes_sound s).0 e).formed f l

    pub own_serves : All (Serves (rate_of s f)) (hops_of own s f)
    unfolding hops_of flow_of
    own_serves = route_serves (rate_of s f) (route_whole s e f l).0 (live_fits s ((passes_sound s).0 e).formed f l).entry_most

    pub own_some : 1 ≤ length (hops_of own s f)
    unfolding hops_of flow_of
    own_some = rw length_along (leads_some (route_whole s e f l).0 (live_fits s ((passes_sound s).0 e).formed f l).entry_some)

    pub own_short : length (hops_of own s f) ≤ 8
    unfolding hops_of
    own_short = rw length_along (route_whole s e f l).1
