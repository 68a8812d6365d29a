-- What is proved over lists of calls of any length, by the promises of the functions themselves: demand 3 of 01; that packets leave first come, first served; that every
-- list has a run; that check 14 and both round trips hold after each, that a release leaves what a fresh plan would give, and that the reader and admission judge alike.
-- The modules named here hold the lemmas.
pub mod Frame
pub mod Demand
pub mod Reach
pub mod Bits
use Prim.Native.Nat.{ℕ, zero, suc, ◌+◌, ◌-◌, ◌≤◌, ◌<◌}
use mathlib.Core.Path.{◌≡◌, refl, sym, ◌∙◌, ap}
use mathlib.Core.Bool.{true, and-eq-true_iff}
use mathlib.Core.Logic.{◌↔◌}
use mathlib.Core.List.{List, [], ◌∷◌, ◌++◌, map}
use lib.ListN.{length}
use borrow.Author.Tests.{lt-ltb, ltb-true}
use native.Mathlib.Omega.{arith}
use Rattle.rulings.specs.Outcome.{Ruling, accepted, refused, Ruled, nothing}
use Rattle.lists.specs.Lists.{total}
use Rattle.rulings.proofs.Laws.Outcomes.{refused_not}
use Rattle.site.specs.declared.Site.{Site}
use Rattle.site.specs.declared.Flow.{Flow}
use Rattle.site.specs.Sites.{live, with_flow, without_flow}
use Rattle.tree.specs.Tree.{has}
use Rattle.reservations.specs.Reservations.{periods_judged, route_of, width_on, late, delay_bound}
use Rattle.site.proofs.Laws.Flows.{live_with}
use Rattle.site_check.specs.Check.{flow_of, passes_of}
use Rattle.site_check.proofs.Laws.{passes_sound, flow_taken, bound_within}
use Rattle.site_check.proofs.Laws.Flows.{live_few}
use Rattle.counters.specs.Blocks.{cells_of, zeros}
use Rattle.counters.proofs.Laws.{length_zeros}
use Rattle.queues.specs.Cells.{Entry, steps, waiting, delivered, arrivals, all_but_newest}
use Rattle.queues.specs.Pace.{All, Rising}
use Rattle.queues.specs.Words.{HasLeft}
use Rattle.queues.proofs.Laws.{left_slots}
use Rattle.queues.proofs.Laws.Cells.{length_steps}
use Rattle.queues.proofs.Laws.Delay.{span_some, arrivals_kept}
use Rattle.queues.proofs.Laws.Packets.{cells_lengths, in_order_lem, first_served, left_when}
use Rattle.plan.proofs.Laws as plan
use Rattle.plan_reader.specs.Read.{read_of}
use Rattle.plan_writer.specs.Write.{flow_bytes, flow_if_live, plan_bytes, bytes_before, bytes_behind}
use Rattle.plan_writer.proofs.Laws.Changed.{plan_parts, plan_without}
use Rattle.admission.specs.Words.{bound_for}
use Rattle.admission.proofs.Laws.{admit_accepted, admit_refused, release_accepted, release_refused, bound_asked, cells_after_lem, admitted_passes}
use Rattle.moves.specs.Hops.{Service, own, hops_of}
use Rattle.moves.specs.Moves.{recounted}
use Rattle.simulation.specs.Slot.{start_ruling, start_of}
use Rattle.simulation.proofs.Laws.{slot_accepted, slot_refused, start_accepted, start_refused, start_cells, starts_when}
use Rattle.moves.proofs.Laws.{slot_cells}
use Rattle.guarantee.specs.Runs.{Call, slot, admit, release, start, State, Promise, called, checks_of, Log, Run, none, then, admissions}
use Rattle.guarantee.specs.Demand.{entered, slots_of, Stays, NoStart, rate_of, deadline_of, bound_of, Begins, Allowed, Answered, Kept, newest}
use Rattle.guarantee.specs.Words.{Exchanged, nodes_alone, FirstServed, Small, Sized}
use Rattle.guarantee.proofs.Laws.Demand.{followed, cells_begun, demand3_any, own_steady, span_along, own_few, own_serves, own_some, own_short}
use Rattle.guarantee.proofs.Laws.Reach.{below_none, below_all, below_passes, reach}
use Rattle.guarantee.proofs.Laws.Bits.{zeros_small, call_small}

-- G is the sum of the periods on the route, the bound that is printed; it is at least 1.
pub bound_is : (s : Site) (f : ℕ) → bound_of own s f ≡ delay_bound s f
unfolding hops_of delay_bound
bound_is s f = span_along s (rate_of s f) (route_of s f)

pub bound_some : (s : Site) → passes_of s ≡ true → (f : ℕ) → live s f ≡ true → 1 ≤ bound_of own s f
bound_some s e f l = span_some (rate_of s f) (hops_of own s f) (own_some s e f l) (own_serves s e f l)

-- 02, U2: G is the number judged. The test of 13 is just whether a live flow's G, the one of demand 3, is above its deadline; and what 18 compares with the deadline of a
-- flow that is to come is its G once it is live.
pub judged_13 : (s : Site) (f : ℕ) → (late s f ≡ true) ↔ ((live s f ≡ true) × (deadline_of s f < bound_of own s f))
unfolding late periods_judged delay_bound
judged_13 s f = (
  λ e. let w = (and-eq-true_iff (live s f) _).0 e in (w.0, rw bound_is (ltb-true _ _ w.1)),
  λ w. rw w.0 (lt-ltb _ _ (rw bound_is at w.1)),
)

pub judged_18 : (s : Site) → passes_of s ≡ true → (g : Flow) → g.number ≤ 63 → bound_for s g ≡ bound_of own (with_flow s g) g.number
judged_18 s e g few = sym (bound_is (with_flow s g) g.number ∙ bound_asked s e g few)

-- What 12 and 17 sum of a live flow on a link of its route is what a slot moves of it there at most, which by `width_exact` is rate × period.
pub width_reserved : (s : Site) (f m : ℕ) → live s f ≡ true → has m (route_of s f) ≡ true → width_on s m f ≡ (own s (rate_of s f) m).width
unfolding width_on
width_reserved s f m l h = rw (l, h)

-- Demand 3: for every list of calls, refused ones included, that begins where a live flow's nine cells are 0, and of which 01's premises hold, all that 01 claims.
pub demand3 : (f : ℕ) (σ₀ : State) (l : Log) (σ : State) (run : Run own σ₀ l σ) → Begins f σ₀ → Allowed f σ₀.site l → Kept own f σ₀ l σ run
demand3 f σ₀ l σ run b d =
    let e = b.passes in let on = b.living in
    demand3_any own own_steady f (own_few σ₀.site e f on) σ₀ b (own_serves σ₀.site e f on) (own_some σ₀.site e f on)
    (own_short σ₀.site e f on) (rw bound_is (bound_within σ₀.site e f on)) run d

-- The cells alone: from any cells of the flow, and with no premise on its rate or on the slots' numbers, they are those that the rules of 'One slot' give it. No other
-- flow's packets, cells or changes play a part.
pub cells_from : (f : ℕ) (σ₀ : State) (l : Log) (σ : State) → Run own σ₀ l σ → passes_of σ₀.site ≡ true → live σ₀.site f ≡ true
    → All (Stays f) l → All NoStart l → cells_of f σ.counters ≡ steps (hops_of own σ₀.site f) (cells_of f σ₀.counters) (slots_of f l)
cells_from f σ₀ l σ run e on d u = (followed own own_steady f (own_few σ₀.site e f on) σ₀ on run d u).cells

-- 01, One slot: each flow's packets leave first come, first served, whatever its rate and the slots' numbers are.
pub served_in_order : (f : ℕ) (σ₀ : State) (l : Log) (σ : State) → Run own σ₀ l σ → Begins f σ₀ → All (Stays f) l → All NoStart l → FirstServed f σ₀ l σ
served_in_order f σ₀ l σ run b d u =
    let hs = hops_of own σ₀.site f in
    let e = cells_begun own own_steady f (own_few σ₀.site b.passes f b.living) σ₀ b run d u in
    let some = own_some σ₀.site b.passes f b.living in
    let few = own_short σ₀.site b.passes f b.living in record {
      cells = cells_lengths hs (slots_of f l) ∙ sym e;
      served = rw e (first_served hs (slots_of f l) some few);
      order = in_order_lem hs (slots_of f l) some few;
      left = λ n one. rw e (left_when hs (slots_of f l) some few n one);
    }

-- 01, One slot: arrivals since a flow's admission equal its queues plus its delivered count, whatever its rate and the slots' numbers are.
pub arrivals_held : (f : ℕ) (σ₀ : State) (l : Log) (σ : State) → Run own σ₀ l σ → Begins f σ₀ → All (Stays f) l → All NoStart l
    → total (arrivals (slots_of f l)) ≡ waiting (cells_of f σ.counters) + delivered (cells_of f σ.counters)
arrivals_held f σ₀ l σ run b d u =
    rw (cells_begun own own_steady f (own_few σ₀.site b.passes f b.living) σ₀ b run d u)
    (arrivals_kept (hops_of own σ₀.site f) (slots_of f l) (own_short σ₀.site b.passes f b.living))

-- All but some of the newest slots have at least the arrivals of the older ones.
late_total : (n : ℕ) (newer older : List Entry) → n ≤ length newer → total (arrivals older) ≤ total (all_but_newest n (arrivals (newer ++ older)))
unfolding arrivals total
late_total zero [] older l = omega arith
late_total (suc n) [] older l = absurd (omega arith)
late_total zero (e ∷ newer) older l = omega (arith, late_total zero newer older (omega arith))
late_total (suc n) (e ∷ newer) older l = late_total n newer older (omega arith)

newest_is : (newer : List Entry) (a : Entry) (older : List Entry) → Rising (newer ++ a ∷ older) → newest (newer ++ a ∷ older) ≡ a.number + length newer
unfolding newest Rising
newest_is [] a older r = omega arith
newest_is (e ∷ []) a older r = omega (arith, r.0)
newest_is (e ∷ d ∷ newer) a older r = omega (arith, r.0, newest_is (d ∷ newer) a older r.1)

-- Demand 3 in packet numbers: the packets of a list have numbers in the order of their arrival, the first 1, and packet n of those up to accepted slot a
-- has left by the end of accepted slot a + G - 1.
pub packet_left : (f : ℕ) (σ₀ : State) (l : Log) (σ : State) → Run own σ₀ l σ → Begins f σ₀ → Allowed f σ₀.site l
    → (newer older : List Entry) (a : Entry) → slots_of f l ≡ newer ++ a ∷ older → a.number + bound_of own σ₀.site f - 1 ≤ newest (slots_of f l)
    → (n : ℕ) → n ≤ total (arrivals (a ∷ older)) → HasLeft n (cells_of f σ.counters)
packet_left f σ₀ l σ run b d newer older a e late n h =
    omega (
      arith,
      rw e at (demand3 f σ₀ l σ run b d).delay,
      late_total (bound_of own σ₀.site f - 1) newer (a ∷ older)
          (omega (arith, rw e at late, newest_is newer a older (rw e at d.rising), bound_some σ₀.site b.passes f b.living)),
    )

-- A refused call adds nothing to the premises, whatever it is and whatever it brings.
pub refused_allowed : (f : ℕ) (s : Site) (c : Call) (n p : ℕ) (l : Log) → Allowed f s l → Allowed f s ((c, refused n p) ∷ l)
unfolding All slots_of entered Stays NoStart
refused_allowed f s (slot t xs) n p l d = record { stays = (tt, d.stays); unbroken = (tt, d.unbroken); rising = d.rising; rated = d.rated }
refused_allowed f s (admit g) n p l d = record { stays = (tt, d.stays); unbroken = (tt, d.unbroken); rising = d.rising; rated = d.rated }
refused_allowed f s (release m) n p l d = record { stays = (tt, d.stays); unbroken = (tt, d.unbroken); rising = d.rising; rated = d.rated }
refused_allowed f s start n p l d = record { stays = (tt, d.stays); unbroken = (tt, d.unbroken); rising = d.rising; rated = d.rated }

-- The newest call of a list was accepted, or refused by its first failing check: so was each, since every list is one with its newest call.
pub newest_ruled : (f : ℕ) (σ₀ : State) (l : Log) (σ : State) (run : Run own σ₀ l σ) (c : Call) (r : Ruling) (σ' : State) → Promise own c σ r σ'
    → Begins f σ₀ → Allowed f σ₀.site ((c, r) ∷ l) → Ruled nothing (checks_of c σ) r
unfolding Answered
newest_ruled f σ₀ l σ run c r σ' p b d = (demand3 f σ₀ _ σ' (then c r σ' run p) b d).answers.0

-- What an accepted admission leaves is a beginning for the new flow, and what an accepted start leaves is one for every live flow.
pub admission_begins : (v : Service) (σ σ' : State) (g : Flow) → Promise v (admit g) σ (accepted tt) σ' → Begins g.number σ'
unfolding Promise
admission_begins v σ σ' g p =
    let a = admit_accepted σ.site σ'.site σ.counters σ'.counters g p in
    let c = cells_after_lem σ.counters g.number a.0.counted a.0.good.within.number_most in record {
      passes = rw a.1 (admitted_passes σ.site σ.counters g a.0);
      counted = rw a.2 c.0;
      living = rw a.1 (live_with σ.site g (omega (arith, a.0.good.within.number_most, a.0.sound.formed.shape.states)));
      empty = rw a.2 c.1;
    }

pub start_begins : (v : Service) (σ σ' : State) (f : ℕ) → live σ.site f ≡ true → Promise v start σ (accepted tt) σ' → Begins f σ'
unfolding Promise
start_begins v σ σ' f on p =
    let a = start_accepted σ.site σ.counters σ'.counters p.0 in record {
      passes = rw p.1 ((passes_sound σ.site).1 a.1);
      counted = rw a.2 (length_zeros 576);
      living = rw p.1 on;
      empty = rw a.2 (start_cells f (live_few σ.site a.1.formed f on));
    }

-- So whatever let a flow in, from its accepted admission on each of its packets is through within G, and the rest of demand 3 holds.
pub admitted_kept : (σ σ₀ : State) (g : Flow) → Promise own (admit g) σ (accepted tt) σ₀
    → (l : Log) (σ' : State) (run : Run own σ₀ l σ') → Allowed g.number σ₀.site l → Kept own g.number σ₀ l σ' run
admitted_kept σ σ₀ g p l σ' run d = demand3 g.number σ₀ l σ' run (admission_begins own σ σ₀ g p) d

-- Every call has an answer and leaves a state, and so every list of calls, newest first, has a run.
pub promised : (v : Service) (c : Call) (σ : State) → Promise v c σ (called v c σ).0 (called v c σ).1
unfolding Promise called
promised v (slot t xs) σ = (refl, refl)
promised v (admit f) σ = refl
promised v (release n) σ = refl
promised v start σ = (refl, refl)

pub every_list : (v : Service) (σ₀ : State) (cs : List Call) → (l : Log) × (σ : State) × Run v σ₀ l σ × (map (λ (e : Call × Ruling). e.0) l ≡ cs)
every_list v σ₀ [] = ([], σ₀, none, refl)
every_list v σ₀ (c ∷ cs) = go (every_list v σ₀ cs)
  where
    go : (l : Log) × (σ : State) × Run v σ₀ l σ × (map (λ (e : Call × Ruling). e.0) l ≡ cs)
        → (l : Log) × (σ : State) × Run v σ₀ l σ × (map (λ (e : Call × Ruling). e.0) l ≡ c ∷ cs)
    go (l, σ, r, e) = ((c, (called v c σ).0) ∷ l, (called v c σ).1, then c (called v c σ).0 (called v c σ).1 r (promised v c σ), rw e)

-- One call, accepted or refused: a site that passes check 14 passes it afterwards, and 576 counters are 576 still.
abbrev Keeps : State → State → Type 0
Keeps σ σ' = (passes_of σ.site ≡ true → passes_of σ'.site ≡ true) × (length σ.counters ≡ 576 → length σ'.counters ≡ 576)

keeps_same : (σ σ' : State) → σ'.site ≡ σ.site → σ'.counters ≡ σ.counters → Keeps σ σ'
keeps_same σ σ' e f = (λ p. rw e p, λ c. rw f c)

call_keeps : (v : Service) (σ σ' : State) (c : Call) (a : Ruling) → Promise v c σ a σ' → Keeps σ σ'
unfolding Promise
call_keeps v σ σ' (slot t xs) (accepted tt) p =
    let w = slot_accepted σ.site σ.counters σ'.counters v xs t p.0 in
    (λ e. rw p.1 e, λ c. rw w.1 (slot_cells v σ.site σ.counters xs t c).0)
call_keeps v σ σ' (slot t xs) (refused number place) p =
    keeps_same σ σ' p.1 (slot_refused σ.site σ.counters σ'.counters v xs t number place p.0)
call_keeps v σ σ' (admit f) (accepted tt) p =
    let w = admit_accepted σ.site σ'.site σ.counters σ'.counters f p in (
      λ e. rw w.1 (admitted_passes σ.site σ.counters f w.0),
      λ c. rw w.2 (cells_after_lem σ.counters f.number c w.0.good.within.number_most).0,
    )
call_keeps v σ σ' (admit f) (refused number place) p =
    let w = admit_refused σ.site σ'.site σ.counters σ'.counters f number place p in keeps_same σ σ' w.0 w.1
call_keeps v σ σ' (release n) (accepted tt) p =
    let w = release_accepted σ.site σ'.site σ.counters σ'.counters n p in
    (λ e. rw w.1 (flow_taken σ.site e n), λ c. rw w.2 (cells_after_lem σ.counters n c w.0.few).0)
call_keeps v σ σ' (release n) (refused number place) p =
    let w = release_refused σ.site σ'.site σ.counters σ'.counters n number place p in keeps_same σ σ' w.0 w.1
call_keeps v σ σ' start (accepted tt) p =
    (λ e. rw p.1 e, λ c. rw (start_accepted σ.site σ.counters σ'.counters p.0).2 (length_zeros 576))
call_keeps v σ σ' start (refused number place) p =
    keeps_same σ σ' p.1 (start_refused σ.site σ.counters σ'.counters number place p.0)

run_keeps : (v : Service) {σ₀ σ : State} {l : Log} → Run v σ₀ l σ → Keeps σ₀ σ
run_keeps v none = (λ e. e, λ c. c)
run_keeps v (then {σ = σ} c a σ' r p) =
    let before = run_keeps v r in let now = call_keeps v σ σ' c a p in (λ e. now.0 (before.0 e), λ n. now.1 (before.1 n))

-- So check 14 lets the site pass all along a list.
pub run_passes : (v : Service) (σ₀ σ : State) (l : Log) → Run v σ₀ l σ → passes_of σ₀.site ≡ true → passes_of σ.site ≡ true
run_passes v σ₀ σ l run e = (run_keeps v run).0 e

-- And where there are 576 counters of 32 bits, there are such all along it.
pub run_sized : (σ₀ σ : State) (l : Log) → Run own σ₀ l σ → Sized σ₀ → Sized σ
run_sized σ₀ σ l run w = record { passes = (run_keeps own run).0 w.passes; counted = (run_keeps own run).1 w.counted; small = small run }
  where
    small : {l : Log} {σ : State} → Run own σ₀ l σ → Small σ
    small none = w.small
    small (then {σ = σ} c a σ' r p) = call_small σ σ' c a p (small r)

-- A start makes such a state of 576 counters, whatever they are.
pub start_sized : (σ σ' : State) → Promise own start σ (accepted tt) σ' → Sized σ'
unfolding Promise
start_sized σ σ' p =
    let w = start_accepted σ.site σ.counters σ'.counters p.0 in
    record { passes = rw p.1 ((passes_sound σ.site).1 w.1); counted = rw w.2 (length_zeros 576); small = rw w.2 zeros_small }

-- And from a beginning on no start is refused: each begins a list of its own.
pub start_unrefused : (v : Service) (f : ℕ) (σ₀ σ σ' : State) (l : Log) → Run v σ₀ l σ → Begins f σ₀ → (number place : ℕ)
    → Promise v start σ (refused number place) σ' → ⊥
unfolding Promise start_of recounted
start_unrefused v f σ₀ σ σ' l run b number place p =
    let keeps = run_keeps v run in
    let rule : start_ruling σ.site σ.counters ≡ refused number place = sym (ap (λ (q : Ruling × List ℕ). q.0) p.0) in
    refused_not _ rule ((starts_when σ.site σ.counters).1 (keeps.1 b.counted, (passes_sound σ.site).0 (keeps.0 b.passes)))

-- A packet that has left after a list has still left after any further calls in which the flow stays admitted and no rehearsal starts anew.
pub left_stays : (f n : ℕ) (σ₀ σ σ' : State) (l l' : Log) → Run own σ₀ l σ → Begins f σ₀ → All (Stays f) l → All NoStart l
    → Run own σ l' σ' → All (Stays f) l' → All NoStart l' → HasLeft n (cells_of f σ.counters) → HasLeft n (cells_of f σ'.counters)
left_stays f n σ₀ σ σ' l l' run b d u run' d' u' left =
    let small = own_few σ₀.site b.passes f b.living in
    let on : live σ.site f ≡ true = (followed own own_steady f small σ₀ b.living run d u).flow.living ∙ b.living in
    let e = run_passes own σ₀ σ l run b.passes in
    let nine : length (cells_of f σ.counters) ≡ 9 = rw (cells_begun own own_steady f small σ₀ b run d u) (length_steps _ (zeros 9) (slots_of f l) ∙ length_zeros 9) in
    rw (cells_from f σ l' σ' run' e on d' u')
    (left_slots (hops_of own σ.site f) (slots_of f l') n _ nine (own_some σ.site e f on) (own_short σ.site e f on) left)

-- After every list of calls, refused ones included, the plan bytes of a site that passed check 14 and the site turn into each other without change.
pub calls_exchanged : (v : Service) (σ₀ σ : State) (l : Log) → Run v σ₀ l σ → passes_of σ₀.site ≡ true → Exchanged σ.site
calls_exchanged v σ₀ σ l run e =
    let passes = run_passes v σ₀ σ l run e in
    record {
      passes = passes;
      written_read = plan.written_read σ.site passes;
      read_written = λ bytes small read. plan.read_written bytes σ.site small read;
    }

-- After a release the site is the one that is read from the plan bytes without that FLOW.
pub release_fresh : (v : Service) (σ σ' : State) (n : ℕ) → Promise v (release n) σ (accepted tt) σ'
    → (plan_bytes σ.site ≡ bytes_before σ.site n ++ (flow_bytes σ.site n ++ bytes_behind σ.site n))
    × (read_of (bytes_before σ.site n ++ bytes_behind σ.site n) ≡ accepted σ'.site)
unfolding Promise flow_if_live flow_of without_flow
release_fresh v σ σ' n p =
    let w = release_accepted σ.site σ'.site σ.counters σ'.counters n p in
    let sound = w.0.sound in (
      plan_parts σ.site n w.0.few ∙ rw w.0.living,
      rw (w.1, ← plan_without σ.site sound.formed.shape n w.0.few)
          (plan.written_read (without_flow σ.site n) (flow_taken σ.site ((passes_sound σ.site).1 sound) n)).1,
    )

-- The reader and admission judge alike. The nodes of a site that passes check 14 pass it alone, and from them the site is reached by admitting its live flows by rising
-- number, each of these admissions accepted.
pub nodes_pass : (s : Site) → passes_of s ≡ true → passes_of (nodes_alone s) ≡ true
nodes_pass s e = rw (← below_none s ((passes_sound s).0 e).formed.shape) (below_passes s e 0 (omega arith))

pub flows_admitted : (v : Service) (s : Site) → passes_of s ≡ true → (counters : List ℕ) → length counters ≡ 576
    → (ds : List ℕ) × Run v (record { site = nodes_alone s; counters = counters }) (admissions s 64) (record { site = s; counters = ds })
flows_admitted v s e counters long =
    let shape = ((passes_sound s).0 e).formed.shape in
    let w = reach s e v counters long 64 (omega arith) in
    (w.0, rw (below_none s shape, below_all s shape) at w.2)
