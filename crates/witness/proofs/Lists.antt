-- The premises of demand 3 hold of a list with admissions, releases and slots, accepted and refused ones of each, so they do not exclude each other; a start stands in
-- no such list, since an accepted one begins the next and by `start_unrefused` none is refused. What demand 3 claims is used, each part of it, and its bounds are met,
-- so that no smaller ones hold.
use Prim.Native.Nat.{ℕ, zero, suc, ◌+◌, ◌-◌, ◌*◌, ◌≤◌}
use mathlib.Core.Path.{◌≡◌, refl, sym, ◌∙◌, ap}
use mathlib.Core.List.{List, [], ◌∷◌}
use native.Mathlib.Omega.{arith}
use Rattle.rulings.specs.Outcome.{accepted, checked, settled, Ruled, nothing}
use Rattle.lists.specs.Search.{last, first, any}
use Rattle.lists.specs.Lists.{total, largest, least, smallest, joined, sum_to, listed, same}
use Rattle.slot_rule.specs.Rule.{exponent, period, sum, limit, fits, base, periods_of, sends, earlier, taken, free_offset, turn, level, levels, offsets_for}
use Rattle.slot_rule.specs.Rule.{offsets_of}
use Rattle.slot_rule.specs.Assign.{bad_gap, first_bad, assigned}
use Rattle.site.specs.Sites.{used, live, with_flow, without_flow, with_schedule}
use Rattle.tree.specs.Tree.{of_link, up, depth_in, depth_of, climb, route, has}
use Rattle.reservations.specs.Reservations.{periods_judged, route_of, width_at, width_on, load, over, first_over, unfit, first_unfit, along, late, first_late}
use Rattle.schedule.specs.Schedule.{gaps_from, gaps_under, rank, assigned_under, base_of, base_under, crowded, first_crowded, entry_assigned, offsets_assigned, periods_assigned}
use Rattle.schedule.specs.Schedule.{scheduled, link_sends}
use Rattle.judgement.specs.Judge.{reserved, judge_of}
use Rattle.limits.specs.Limits.{bad_node, bad_flow, node_limits, misplaced, flow_limits}
use Rattle.site_check.specs.Check.{shaped, node_of, flow_of, ill_node, ill_flow, first_ill_node, first_ill_flow, formed, accepts, stands, passes_of, call_fault}
use Rattle.counters.specs.Blocks.{block, with_block, cells_of, with_cells, zeros}
use Rattle.queues.specs.Cells.{moved, arrived, delivering, passed, step, steps, waiting, delivered, arrivals, all_but_newest, span}
use Rattle.queues.specs.Pace.{All, Rising, Within}
use Rattle.flow_checks.specs.Flows.{flow_ruling, number_ruling}
use Rattle.admission.specs.Calls.{change, admit_ruling, admit_of, release_ruling, release_of}
use Rattle.moves.specs.Hops.{own, hops_along, hops_of}
use Rattle.moves.specs.Moves.{recounted, cells_after}
use Rattle.slot_checks.specs.Checks.{overflows, first_overflow, unexpected, first_unexpected, arrivals_ruling}
use Rattle.simulation.specs.Slot.{slot_ruling, slot_of, start_ruling, start_of}
use Rattle.guarantee.specs.Runs.{Call, slot, admit, release, State, Promise, called, checks_of, Log, Run, none, then}
use Rattle.guarantee.specs.Demand.{entered, slots_of, Stays, NoStart, rate_of, bound_of, Begins, Allowed, Waits, JoinsIn, Joins, Answered, Kept}
use Rattle.guarantee.proofs.Laws.{demand3, promised, admitted_kept}
use Rattle.proved_examples.specs.Table.{read_p}
use Rattle.witness.specs.Lists.{played, state_p, arrivals_p, accepted_from, flow_five, busy, mixed, admitted, half, busy_log, mixed_log, sixteen}
use Rattle.witness.specs.Lists.{lone, lone_log, state_five, paced_slots, paced_log}

-- What is played is a run.
pub played_run : (σ₀ : State) (cs : List Call) (l : Log) (σ : State) → Run own σ₀ l σ → Run own σ₀ (played cs l σ).0 (played cs l σ).1
unfolding played
played_run σ₀ [] l σ run = run
played_run σ₀ (c ∷ cs) l σ run = played_run σ₀ cs _ _ (then c (called own c σ).0 (called own c σ).1 run (promised own c σ))

-- What the definitions give, by computing. Where the lists begin, and G = 7.
begins_p : Begins 0 state_p
unfolding called played state_p moved arrived delivering passed step hops_along hops_of cells_of link_sends recounted overflows first_overflow unexpected first_unexpected
    arrivals_ruling slot_ruling cells_after slot_of start_ruling start_of checked settled block with_block with_cells zeros unfit first_unfit call_fault change flow_ruling
    admit_ruling admit_of number_ruling release_ruling release_of last first any total largest least smallest exponent period sum limit fits base periods_of sends earlier
    taken free_offset turn level levels offsets_for offsets_of bad_gap first_bad assigned of_link live with_flow without_flow with_schedule up depth_in depth_of climb route has
    used gaps_from gaps_under rank assigned_under base_of base_under crowded first_crowded entry_assigned listed offsets_assigned periods_assigned scheduled periods_judged
    route_of width_at width_on sum_to load over first_over along late first_late reserved judge_of bad_node bad_flow node_limits misplaced flow_limits joined shaped node_of
    flow_of ill_node ill_flow first_ill_node first_ill_flow formed same accepts stands passes_of
begins_p = record { passes = refl; counted = refl; living = refl; empty = refl }

bound_p : bound_of own read_p 0 ≡ 7
unfolding state_p hops_along hops_of route_of route climb up of_link span
bound_p = refl

-- The answers of the mixed list, and the cells that it leaves. These are the cells of the marked plan, so flow 5 has changed nothing.
pub record MixedPlayed : Type 0 where
  pub log : (played busy [] state_p).0 ≡ busy_log
  pub newest : (called own (release 5) (played busy [] state_p).1).0 ≡ accepted tt
  pub cells : cells_of 0 (played mixed [] state_p).1.counters ≡ 3 ∷ 6 ∷ 0 ∷ 0 ∷ 0 ∷ 0 ∷ 0 ∷ 0 ∷ 42 ∷ []

-- The lone packet of slot 10: not delivered after slot 15, and delivered after slot 16.
pub record LonePlayed : Type 0 where
  pub log : (played (lone 5) [] state_p).0 ≡ lone_log 5
  pub later : (played (lone 6) [] state_p).0 ≡ lone_log 6
  pub waits : delivered (cells_of 0 (played (lone 5) [] state_p).1.counters) ≡ 0
  pub leaves : delivered (cells_of 0 (played (lone 6) [] state_p).1.counters) ≡ 1

-- After the slots 0 to 15 slot 16 is accepted too, and when its three arrivals have joined, 21 = rate × G packets wait.
pub record SixteenPlayed : Type 0 where
  pub log : (played sixteen [] state_p).0 ≡ accepted_from 16 0 (arrivals_p 3 0) []
  pub next : (called own (slot 16 (arrivals_p 3 0)) (played sixteen [] state_p).1).0 ≡ accepted tt
  pub wait : waiting (arrived 3 (cells_of 0 (played sixteen [] state_p).1.counters)) ≡ 21

pub mixed_played : MixedPlayed
unfolding called played state_p moved arrived delivering passed step hops_along hops_of cells_of link_sends recounted overflows first_overflow unexpected first_unexpected
    arrivals_ruling slot_ruling cells_after slot_of start_ruling start_of checked settled block with_block with_cells zeros unfit first_unfit call_fault change flow_ruling
    admit_ruling admit_of number_ruling release_ruling release_of last first any total largest least smallest exponent period sum limit fits base periods_of sends earlier
    taken free_offset turn level levels offsets_for offsets_of bad_gap first_bad assigned of_link live with_flow without_flow with_schedule up depth_in depth_of climb route has
    used gaps_from gaps_under rank assigned_under base_of base_under crowded first_crowded entry_assigned listed offsets_assigned periods_assigned scheduled periods_judged
    route_of width_at width_on sum_to load over first_over along late first_late reserved judge_of bad_node bad_flow node_limits misplaced flow_limits joined shaped node_of
    flow_of ill_node ill_flow first_ill_node first_ill_flow formed same accepts stands passes_of
mixed_played = record { log = refl; newest = refl; cells = refl }

pub lone_played : LonePlayed
unfolding called played state_p moved arrived delivering passed step hops_along hops_of cells_of link_sends recounted overflows first_overflow unexpected first_unexpected
    arrivals_ruling slot_ruling cells_after slot_of start_ruling start_of checked settled block with_block with_cells zeros unfit first_unfit call_fault change flow_ruling
    admit_ruling admit_of number_ruling release_ruling release_of last first any total largest least smallest exponent period sum limit fits base periods_of sends earlier
    taken free_offset turn level levels offsets_for offsets_of bad_gap first_bad assigned of_link live with_flow without_flow with_schedule up depth_in depth_of climb route has
    used gaps_from gaps_under rank assigned_under base_of base_under crowded first_crowded entry_assigned listed offsets_assigned periods_assigned scheduled periods_judged
    route_of width_at width_on sum_to load over first_over along late first_late reserved judge_of bad_node bad_flow node_limits misplaced flow_limits joined shaped node_of
    flow_of ill_node ill_flow first_ill_node first_ill_flow formed same accepts stands passes_of delivered
lone_played = record { log = refl; later = refl; waits = refl; leaves = refl }

pub sixteen_played : SixteenPlayed
unfolding called played state_p moved arrived delivering passed step hops_along hops_of cells_of link_sends recounted overflows first_overflow unexpected first_unexpected
    arrivals_ruling slot_ruling cells_after slot_of start_ruling start_of checked settled block with_block with_cells zeros unfit first_unfit call_fault change flow_ruling
    admit_ruling admit_of number_ruling release_ruling release_of last first any total largest least smallest exponent period sum limit fits base periods_of sends earlier
    taken free_offset turn level levels offsets_for offsets_of bad_gap first_bad assigned of_link live with_flow without_flow with_schedule up depth_in depth_of climb route has
    used gaps_from gaps_under rank assigned_under base_of base_under crowded first_crowded entry_assigned listed offsets_assigned periods_assigned scheduled periods_judged
    route_of width_at width_on sum_to load over first_over along late first_late reserved judge_of bad_node bad_flow node_limits misplaced flow_limits joined shaped node_of
    flow_of ill_node ill_flow first_ill_node first_ill_flow formed same accepts stands passes_of waiting
sixteen_played = record { log = refl; next = refl; wait = refl }

-- Flow f stays admitted and no rehearsal starts anew in this log; and so in one with accepted slots on top.
abbrev Calm : ℕ → Log → Type 0
Calm f l = All (Stays f) l × All NoStart l

calm_slots : (f n t : ℕ) (xs : List ℕ) (l : Log) → Calm f l → Calm f (accepted_from n t xs l)
unfolding All Stays NoStart
calm_slots f zero t xs l w = w
calm_slots f (suc n) t xs l w = let more = calm_slots f n t xs l w in ((tt, more.0), (tt, more.1))

-- All premises hold of the mixed list ..
mixed_allowed : Allowed 0 read_p mixed_log
unfolding All Rising slots_of entered Stays NoStart
mixed_allowed =
    let early = calm_slots 0 9 0 (arrivals_p 3 40) admitted ((tt, (tt, (tt, tt))), (tt, (tt, (tt, tt)))) in
    let late = calm_slots 0 8 9 (arrivals_p 3 0) half ((tt, early.0), (tt, early.1)) in
    record { stays = (λ e. omega arith, late.0); unbroken = (tt, late.1); rising = omega arith; rated = omega arith }

-- .. and so all of demand 3.
pub mixed_run : Run own state_p mixed_log (played mixed [] state_p).1
unfolding played
mixed_run =
    then (release 5) (accepted tt) _ (rw mixed_played.log at (played_run state_p busy [] state_p none))
    (rw mixed_played.newest at (promised own (release 5) (played busy [] state_p).1))

pub mixed_kept : Kept own 0 state_p mixed_log (played mixed [] state_p).1 mixed_run
unfolding state_p
mixed_kept = demand3 0 state_p mixed_log _ mixed_run begins_p mixed_allowed

-- Of 51 arrivals it asks for 33 delivered, and 42 are.
pub mixed_asked : total (all_but_newest (bound_of own read_p 0 - 1) (arrivals (slots_of 0 mixed_log))) ≡ 33
unfolding total slots_of entered arrivals
mixed_asked = rw bound_p

-- What it says of this list in figures, each by the field of `Kept` that has its name.
pub record MixedClaimed : Type 0 where
  -- No check of the newest call fails, the release of flow 5;
  pub answers : Ruled nothing (checks_of (release 5) (played busy [] state_p).1) (accepted tt)
  -- the rules of 'One slot' give the cells that are there;
  pub cells : steps (hops_of own read_p 0) (zeros 9) (slots_of 0 mixed_log) ≡ 3 ∷ 6 ∷ 0 ∷ 0 ∷ 0 ∷ 0 ∷ 0 ∷ 0 ∷ 42 ∷ []
  -- of 51 arrivals those that are not delivered wait, 9;
  pub all : 51 ≡ waiting (cells_of 0 (played mixed [] state_p).1.counters) + 42
  -- at least 33 are delivered;
  pub delay : 33 ≤ delivered (cells_of 0 (played mixed [] state_p).1.counters)
  -- G is within the deadline, 7;
  pub deadline : bound_of own read_p 0 ≤ 7
  -- at most 21 wait after the newest call. That at most 21 wait when arrivals have just joined, `sixteen_claimed` says.
  pub waits : waiting (cells_of 0 (played mixed [] state_p).1.counters) ≤ 21

pub mixed_claimed : MixedClaimed
unfolding state_p Answered Waits mixed_run total slots_of entered arrivals delivered
mixed_claimed = record {
  answers = mixed_kept.answers.0;
  cells = sym mixed_kept.cells ∙ mixed_played.cells;
  all = rw (ap (λ (cs : List ℕ). delivered cs) mixed_played.cells) at mixed_kept.all;
  delay = rw mixed_asked at mixed_kept.delay;
  deadline = mixed_kept.deadline;
  waits = rw bound_p at mixed_kept.waits.0;
}

lone_allowed : (n : ℕ) → Rising (slots_of 0 (lone_log n)) → Within 3 (slots_of 0 (lone_log n)) → Allowed 0 read_p (lone_log n)
unfolding All
lone_allowed n r w =
    let calm = calm_slots 0 n 11 (arrivals_p 0 0) _ (calm_slots 0 1 10 (arrivals_p 1 0) [] (tt, tt)) in
    record { stays = calm.0; unbroken = calm.1; rising = r; rated = w }

-- Demand 3 itself says that the lone packet has left after slot 16: its claim is no weaker than 01's.
pub lone_claimed : 1 ≤ delivered (cells_of 0 (played (lone 6) [] state_p).1.counters)
unfolding state_p total slots_of entered arrivals All Rising
lone_claimed =
    let kept = demand3 0 state_p _ _ (played_run state_p (lone 6) [] state_p none) begins_p (rw lone_played.later (lone_allowed 6 (omega arith) (omega arith))) in
    omega (arith, rw (lone_played.later, bound_p) at kept.delay)

-- Because of the lone packet it is false that the arrivals of all accepted slots but the last G - 2 are always delivered.
pub delay_tight : ((f : ℕ) (σ₀ : State) (l : Log) (σ : State) → Run own σ₀ l σ → Begins f σ₀ → Allowed f σ₀.site l
    → total (all_but_newest (bound_of own σ₀.site f - 2) (arrivals (slots_of f l))) ≤ delivered (cells_of f σ.counters)) → ⊥
unfolding state_p total slots_of entered arrivals All Rising
delay_tight claim =
    let w = claim 0 state_p _ _ (played_run state_p (lone 5) [] state_p none) begins_p (rw lone_played.log (lone_allowed 5 (omega arith) (omega arith))) in
    omega (arith, rw (lone_played.log, lone_played.waits, bound_p) at w)

seventeen_allowed : Allowed 0 read_p (accepted_from 17 0 (arrivals_p 3 0) [])
unfolding All Rising slots_of entered
seventeen_allowed =
    let calm = calm_slots 0 17 0 (arrivals_p 3 0) [] (tt, tt) in record { stays = calm.0; unbroken = calm.1; rising = omega arith; rated = omega arith }

-- The seventeen slots, as a run whose newest call is slot 16.
seventeen : Run own state_p ((slot 16 (arrivals_p 3 0), accepted tt) ∷ (played sixteen [] state_p).0) (called own (slot 16 (arrivals_p 3 0)) (played sixteen [] state_p).1).1
seventeen =
    let c = slot 16 (arrivals_p 3 0) in
    then c (accepted tt) _ (played_run state_p sixteen [] state_p none) (rw sixteen_played.next at (promised own c (played sixteen [] state_p).1))

-- Demand 3 itself says that at most 21 wait in slot 16: its claim is no weaker than 01's.
pub sixteen_claimed : waiting (arrived 3 (cells_of 0 (played sixteen [] state_p).1.counters)) ≤ 21
unfolding state_p Joins JoinsIn seventeen
sixteen_claimed =
    let kept = demand3 0 state_p _ _ seventeen begins_p (rw sixteen_played.log seventeen_allowed) in
    omega (arith, rw bound_p at kept.joins.0)

-- Because of the 21 packets it is false that at most rate × (G - 1) wait in every accepted slot when its arrivals have just joined.
pub waiting_tight : ((f : ℕ) (σ₀ : State) (l : Log) (σ : State) (run : Run own σ₀ l σ) → Begins f σ₀ → Allowed f σ₀.site l
    → Joins f (rate_of σ₀.site f * (bound_of own σ₀.site f - 1)) run) → ⊥
unfolding state_p Joins JoinsIn seventeen
waiting_tight claim =
    let w = claim 0 state_p _ _ seventeen begins_p (rw sixteen_played.log seventeen_allowed) in
    omega (arith, sixteen_played.wait, rw bound_p at w.0)

-- Flow 5, which 02, U2, lets in, meets both bounds too. After its slots 2 to 4 nothing is delivered; in slot 5, when its arrivals have joined,
-- 16 = rate × G wait, and all of them leave in that slot: link 2's width is just so many.
pub record FivePlayed : Type 0 where
  pub answer : called own (admit flow_five) state_p ≡ (accepted tt, state_five)
  pub rate : rate_of state_five.site 5 ≡ 4
  pub bound : bound_of own state_five.site 5 ≡ 4
  pub log : (played (paced_slots 3) [] state_five).0 ≡ paced_log 3
  pub later : (played (paced_slots 4) [] state_five).0 ≡ paced_log 4
  pub waits : cells_of 5 (played (paced_slots 3) [] state_five).1.counters ≡ 12 ∷ 0 ∷ 0 ∷ 0 ∷ 0 ∷ 0 ∷ 0 ∷ 0 ∷ 0 ∷ []
  pub leaves : cells_of 5 (played (paced_slots 4) [] state_five).1.counters ≡ 0 ∷ 0 ∷ 0 ∷ 0 ∷ 0 ∷ 0 ∷ 0 ∷ 0 ∷ 16 ∷ []

pub five_played : FivePlayed
unfolding called played state_p state_five moved arrived delivering passed step hops_along hops_of cells_of link_sends recounted overflows first_overflow unexpected
    first_unexpected arrivals_ruling slot_ruling cells_after slot_of start_ruling start_of checked settled block with_block with_cells zeros unfit first_unfit call_fault change
    flow_ruling admit_ruling admit_of number_ruling release_ruling release_of last first any total largest least smallest exponent period sum limit fits base periods_of
    sends earlier taken free_offset turn level levels offsets_for offsets_of bad_gap first_bad assigned of_link live with_flow without_flow with_schedule up depth_in depth_of
    climb route has used gaps_from gaps_under rank assigned_under base_of base_under crowded first_crowded entry_assigned listed offsets_assigned periods_assigned scheduled
    periods_judged route_of width_at width_on sum_to load over first_over along late first_late reserved judge_of bad_node bad_flow node_limits misplaced flow_limits joined
    shaped node_of flow_of ill_node ill_flow first_ill_node first_ill_flow formed same accepts stands passes_of span
five_played = record { answer = refl; rate = refl; bound = refl; log = refl; later = refl; waits = refl; leaves = refl }

-- All of demand 3 holds of it from its admission on.
pub five_kept : Kept own 5 state_five (played (paced_slots 4) [] state_five).0 (played (paced_slots 4) [] state_five).1
    (played_run state_five (paced_slots 4) [] state_five none)
unfolding All Rising slots_of entered
five_kept =
    let calm = calm_slots 5 4 2 (arrivals_p 0 4) [] (tt, tt) in
    admitted_kept state_p state_five flow_five admitted_five _ _ (played_run state_five (paced_slots 4) [] state_five none)
    (rw five_played.later (record { stays = calm.0; unbroken = calm.1; rising = omega arith; rated = rw five_played.rate (omega arith) }))
  where
    admitted_five : Promise own (admit flow_five) state_p (accepted tt) state_five
    admitted_five = rw five_played.answer at (promised own (admit flow_five) state_p)
