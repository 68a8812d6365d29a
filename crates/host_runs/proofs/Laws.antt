-- What is proved of a host's calls: that a refused one leaves all memory lent to it as it was, that each answers by the first of its checks that fails, and demand 3
-- over lists of them, by the contracts of the functions themselves. The modules named here hold the lemmas.
pub mod Refused
pub mod Asked
pub mod Reading
pub mod First
pub mod Played
use Prim.Native.Nat.{ℕ}
use mathlib.Core.Path.{◌≡◌, refl, sym, ◌∙◌, ap}
use mathlib.Core.Bool.{true}
use mathlib.Core.List.{List, [], ◌∷◌, ◌++◌}
use mathlib.Core.Logic.{◌↔◌}
use lib.ListN.{length}
use Rattle.rulings.specs.Outcome.{Outcome, accepted, refused, Ruled}
use Rattle.site.specs.declared.Site.{Site}
use Rattle.site.specs.declared.Flow.{Flow}
use Rattle.site.specs.Sites.{live}
use Rattle.format.specs.Words.{Bytes}
use Rattle.plan_reader.specs.Read.{read_of}
use Rattle.counters.specs.Blocks.{cells_of, zeros}
use Rattle.moves.specs.Hops.{own}
use Rattle.guarantee.specs.Demand.{Allowed}
use Rattle.guarantee.proofs.Laws.{demand3, refused_allowed, admission_begins, start_begins}
use Rattle.guarantee.proofs.Laws.Demand.{followed, own_steady, own_few}
use Rattle.host_answers.specs.Answers.{told}
use Rattle.host_answers.proofs.Laws.Calls.{read_standing}
use Rattle.host_changes.proofs.Laws.{admit_reads}
use Rattle.slotplan_lib.proofs.slotplan_read_plan.Reads as reads
use Rattle.slotplan_lib.proofs.slotplan_schedule.Reads as schedules
use Rattle.slotplan_lib.proofs.slotplan_read_schedule.Reads as files
use Rattle.slotplan_lib.proofs.slotplan_write_schedule.Reads as writes
use Rattle.slotplan_lib.proofs.slotplan_admit.Reads as admits
use Rattle.slotplan_lib.proofs.slotplan_release.Reads as releases
use Rattle.slotplan_lib.proofs.slotplan_start.Reads as starts
use Rattle.slotplan_lib.proofs.slotplan_slot.Reads as slots
use Rattle.slotplan_lib.proofs.slotplan_sender.Reads as senders
use Rattle.slotplan_lib.proofs.slotplan_bound.Reads as bounds
use Rattle.slotplan_lib.proofs.slotplan_assign.Reads as assigns
use Rattle.host_runs.specs.Calls.{HostCall, read_plan, schedule, read_schedule, write_schedule, admit, release, start, slot, sender, bound, assign}
use Rattle.host_runs.specs.Calls.{lent_to, leaving_one, leaving_two, came_to}
use Rattle.host_runs.specs.Words.{Typed, host_checks, Gives}
use Rattle.host_runs.specs.Lists.{Held, plan_after, held_after, Effect, keeps, plays, effect_of, HandedOn, HostStep, HostLog, HostRun, no_call, one_more}
use Rattle.host_runs.specs.Lists.{as_ruling, logged, log_of, state_of, HostBegins, HostAnswered, HostKept}
use Rattle.host_runs.proofs.Laws.Refused.{schedule_leaves, read_schedule_leaves, write_schedule_leaves}
use Rattle.host_runs.proofs.Laws.Refused.{admit_leaves, release_leaves, start_leaves, slot_leaves, assign_leaves}
use Rattle.host_runs.proofs.Laws.First.{read_plan_first, schedule_first, read_schedule_first, write_schedule_first, admit_first, release_first}
use Rattle.host_runs.proofs.Laws.First.{start_first, slot_first, sender_first, bound_first, assign_first}
use Rattle.host_runs.proofs.Laws.Played.{triple, admit_on, start_on, follows}

-- 01: a refused call leaves all memory lent to it as it was, whichever of the eleven functions it is and whatever it is handed.
pub refused_leaves : (c : HostCall) (number place : ℕ) → (came_to c).0 ≡ refused number place → (came_to c).1 ≡ lent_to c
unfolding came_to lent_to
refused_leaves (read_plan plan) = λ number place e. refl
refused_leaves (schedule plan out) = schedule_leaves plan out
refused_leaves (read_schedule file offsets periods) = read_schedule_leaves file offsets periods
refused_leaves (write_schedule links offsets periods out) = write_schedule_leaves links offsets periods out
refused_leaves (admit plan counters f out) = admit_leaves plan counters f out
refused_leaves (release plan counters n out) = release_leaves plan counters n out
refused_leaves (start plan counters) = start_leaves plan counters
refused_leaves (slot plan counters arrivals t) = slot_leaves plan counters arrivals t
refused_leaves (sender plan parent t) = λ number place e. refl
refused_leaves (bound plan n) = λ number place e. refl
refused_leaves (assign gaps offsets periods) = assign_leaves 2 gaps offsets periods

-- 01: each call is refused by the first of its checks that fails, with its number and place; where none fails it is accepted, with the value that its words name.
-- So the words settle the answer of every call.
pub host_first : (c : HostCall) → Typed c → (o : Outcome ℕ) → ((came_to c).0 ≡ o) ↔ Ruled (Gives c) (host_checks c) o
unfolding came_to Typed host_checks Gives
host_first (read_plan plan) small = read_plan_first plan small
host_first (schedule plan out) small = schedule_first plan out small
host_first (read_schedule file offsets periods) small = read_schedule_first file offsets periods small
host_first (write_schedule links offsets periods out) small = write_schedule_first links offsets periods out
host_first (admit plan counters f out) small = admit_first plan counters f out small
host_first (release plan counters n out) small = release_first plan counters n out small
host_first (start plan counters) small = start_first plan counters small
host_first (slot plan counters arrivals t) small = slot_first plan counters arrivals t small
host_first (sender plan parent t) small = sender_first plan parent t small
host_first (bound plan n) small = bound_first plan n small
host_first (assign gaps offsets periods) small = assign_first gaps offsets periods

pub host_ruled : (c : HostCall) → Typed c → Ruled (Gives c) (host_checks c) (came_to c).0
host_ruled c small = (host_first c small (came_to c).0).0 refl

-- So each call of a list has the outcome of its checks.
pub host_answered : {h₀ : Held} {l : HostLog} {h : Held} (run : HostRun h₀ l h) → HostAnswered run
unfolding HostAnswered
host_answered no_call = tt
host_answered (one_more c o h' run p) = ((host_first c p.typed o).0 (sym p.answer), host_answered run)

-- Demand 3 over every list of a host's calls, of all eleven functions and refused ones included, slices that are too short among them: from a beginning, and where
-- 01's premises hold of its slots, admissions, releases and starts, all that 01 claims, and the bytes that the host holds read to a site on which the flow is live.
pub host_demand3 : (f : ℕ) (s : Site) (h₀ : Held) (l : HostLog) (h : Held) (run : HostRun h₀ l h) → HostBegins f s h₀ → Allowed f s (log_of l)
    → HostKept f s h₀ l h run
host_demand3 f s h₀ l h run b d =
    let w = follows f s h₀ b.0 run d.stays d.unbroken in
    let k = demand3 f (state_of s h₀) w.log w.state w.run b.1 (record {
      stays = w.stays;
      unbroken = w.unbroken;
      rising = rw w.slots d.rising;
      rated = rw w.slots d.rated;
    }) in
    let lives = followed own own_steady f (own_few s b.1.passes f b.1.living) (state_of s h₀) b.1.living w.run w.stays w.unbroken in record {
      answers = host_answered run;
      standing = (w.state.site, w.reads, lives.flow.living ∙ b.1.living);
      cells = rw (← w.same, ← w.slots) k.cells;
      all = rw (← w.same, ← w.slots) k.all;
      delay = rw (← w.same, ← w.slots) k.delay;
      deadline = k.deadline;
      waits = w.waits _ k.waits;
      joins = w.joins _ k.joins;
    }

-- A refused call adds nothing to the premises, whatever it is and whatever it brings.
pub host_refused_allowed : (f : ℕ) (s : Site) (c : HostCall) (n p : ℕ) (l : HostLog) → Allowed f s (log_of l) → Allowed f s (log_of ((c, refused n p) ∷ l))
unfolding log_of logged as_ruling
host_refused_allowed f s c n p l d = go (effect_of c)
  where
    go : (e : Effect) → Allowed f s (logged e (refused n p) ++ log_of l)
    go keeps = d
    go (plays k got left) = refused_allowed f s k n p (log_of l) d

-- Where such lists begin: at any plan bytes with 576 counters, for a live flow with nine cells of 0; with an accepted admission, for its flow; and with an accepted
-- start, for every live flow.
pub bytes_begin : (f : ℕ) (s : Site) (h : Held) → Bytes h.plan → read_of h.plan ≡ accepted s → length h.counters ≡ 576 → live s f ≡ true
    → cells_of f h.counters ≡ zeros 9 → HostBegins f s h
bytes_begin f s h small reads counted living empty =
    (reads, record { passes = read_standing h.plan small s reads; counted = counted; living = living; empty = empty })

pub host_admission_begins : (h h' : Held) (plan counters : List ℕ) (g : Flow) (out : List ℕ) (v : ℕ) → HostStep (admit plan counters g out) h (accepted v) h'
    → (s : Site) × HostBegins g.number s h'
unfolding came_to effect_of HandedOn
host_admission_begins h h' plan counters g out v p =
    let q = admit_reads plan counters g out v _ _ (triple _ _ p.answer) in
    let got : read_of h.plan ≡ accepted q.0 = rw (← ap (λ (k : Held). k.plan) p.held.0) q.2 in
    let w = admit_on h h' q.0 got plan counters g out v p in
    (w.0, (w.2, admission_begins own (state_of q.0 h) (state_of w.0 h') g w.1))

pub host_start_begins : (f : ℕ) (s : Site) (h h' : Held) → read_of h.plan ≡ accepted s → live s f ≡ true → (plan counters : List ℕ) (v : ℕ)
    → HostStep (start plan counters) h (accepted v) h' → HostBegins f s h'
host_start_begins f s h h' reads on plan counters v p =
    let w = start_on h h' s reads plan counters v p in (w.1, start_begins own (state_of s h) (state_of s h') f on w.0)

-- The contracts of the functions themselves, as the checker reads them, say what these calls come to: `a` holds what is handed in and `x` what is lent as the call
-- leaves it.
pub read_plan_came : (κs : _) (a : _) (r : _) (x : _) → reads.Post κs a r x → (told r, []) ≡ came_to (read_plan a.0.now)
unfolding came_to
read_plan_came κs a r x p = rw p

pub schedule_came : (κs : _) (a : _) (r : _) (x : _) → schedules.Post κs a r x → (told r, x.1.0.now ∷ []) ≡ came_to (schedule a.0.now a.1.0.now)
unfolding came_to
schedule_came κs a r x p = ap leaving_one p

pub read_schedule_came : (κs : _) (a : _) (r : _) (x : _) → files.Post κs a r x
    → (told r, x.1.0.now ∷ x.1.1.0.now ∷ []) ≡ came_to (read_schedule a.0.now a.1.0.now a.1.1.0.now)
unfolding came_to
read_schedule_came κs a r x p = ap leaving_two p

pub write_schedule_came : (κs : _) (a : _) (r : _) (x : _) → writes.Post κs a r x
    → (told r, x.1.1.1.0.now ∷ []) ≡ came_to (write_schedule a.0 a.1.0.now a.1.1.0.now a.1.1.1.0.now)
unfolding came_to
write_schedule_came κs a r x p = ap leaving_one p

pub admit_came : (κs : _) (a : _) (r : _) (x : _) → admits.Post κs a r x
    → (told r, x.1.0.now ∷ x.1.1.1.1.1.1.0.now ∷ [])
    ≡ came_to (admit a.0.now a.1.0.now
    (record { number = a.1.1.0; entry = a.1.1.1.0; rate = a.1.1.1.1.0; deadline = a.1.1.1.1.1.0 }) a.1.1.1.1.1.1.0.now)
unfolding came_to
admit_came κs a r x p = ap leaving_two p

pub release_came : (κs : _) (a : _) (r : _) (x : _) → releases.Post κs a r x
    → (told r, x.1.0.now ∷ x.1.1.1.0.now ∷ []) ≡ came_to (release a.0.now a.1.0.now a.1.1.0 a.1.1.1.0.now)
unfolding came_to
release_came κs a r x p = ap leaving_two p

pub start_came : (κs : _) (a : _) (r : _) (x : _) → starts.Post κs a r x → (told r, x.1.0.now ∷ []) ≡ came_to (start a.0.now a.1.0.now)
unfolding came_to
start_came κs a r x p = ap leaving_one p

pub slot_came : (κs : _) (a : _) (r : _) (x : _) → slots.Post κs a r x
    → (told r, x.1.0.now ∷ []) ≡ came_to (slot a.0.now a.1.0.now a.1.1.0.now a.1.1.1.0)
unfolding came_to
slot_came κs a r x p = ap leaving_one p

pub sender_came : (κs : _) (a : _) (r : _) (x : _) → senders.Post κs a r x → (told r, []) ≡ came_to (sender a.0.now a.1.0 a.1.1.0)
unfolding came_to
sender_came κs a r x p = rw p

pub bound_came : (κs : _) (a : _) (r : _) (x : _) → bounds.Post κs a r x → (told r, []) ≡ came_to (bound a.0.now a.1.0)
unfolding came_to
bound_came κs a r x p = rw p

pub assign_came : (κs : _) (a : _) (r : _) (x : _) → assigns.Post κs a r x
    → (told r, x.1.0.now ∷ x.1.1.0.now ∷ []) ≡ came_to (assign a.0.now a.1.0.now a.1.1.0.now)
unfolding came_to
assign_came κs a r x p = ap leaving_two p

-- So each is a step of a list: a call that changes nothing held, whatever is held ..
pub keeps_steps : (c : HostCall) (o : Outcome ℕ) (memory : List (List ℕ)) → effect_of c ≡ keeps → Typed c → (o, memory) ≡ came_to c → (h : Held) → HostStep c h o h
unfolding HandedOn
keeps_steps c o memory k typed e h = record { typed = typed; answer = ap (λ (w : Outcome ℕ × List (List ℕ)). w.0) e; held = rw k refl }

-- .. and a slot, a start, an admission and a release that get what is held. They leave the counters that they were lent, and an accepted change as many bytes of the
-- slice as it answers. That a plan is bytes is what the type of its parameter says.
pub slot_steps : (κs : _) (a : _) (r : _) (x : _) → slots.Post κs a r x → Bytes a.0.now
    → HostStep (slot a.0.now a.1.0.now a.1.1.0.now a.1.1.1.0) (record { plan = a.0.now; counters = a.1.0.now })
    (told r) (record { plan = a.0.now; counters = x.1.0.now })
unfolding came_to Typed effect_of HandedOn
slot_steps κs a r x p small = record {
  typed = small;
  answer = ap (λ (w : Outcome ℕ × List ℕ). w.0) p;
  held = (refl, ap (λ (w : Outcome ℕ × List ℕ). record { plan = a.0.now; counters = w.1 }) p);
}

pub start_steps : (κs : _) (a : _) (r : _) (x : _) → starts.Post κs a r x → Bytes a.0.now
    → HostStep (start a.0.now a.1.0.now) (record { plan = a.0.now; counters = a.1.0.now })
    (told r) (record { plan = a.0.now; counters = x.1.0.now })
unfolding came_to Typed effect_of HandedOn
start_steps κs a r x p small = record {
  typed = small;
  answer = ap (λ (w : Outcome ℕ × List ℕ). w.0) p;
  held = (refl, ap (λ (w : Outcome ℕ × List ℕ). record { plan = a.0.now; counters = w.1 }) p);
}

pub admit_steps : (κs : _) (a : _) (r : _) (x : _) → admits.Post κs a r x → Bytes a.0.now
    → HostStep (admit a.0.now a.1.0.now
    (record { number = a.1.1.0; entry = a.1.1.1.0; rate = a.1.1.1.1.0; deadline = a.1.1.1.1.1.0 }) a.1.1.1.1.1.1.0.now)
    (record { plan = a.0.now; counters = a.1.0.now })
    (told r) (record { plan = plan_after (told r) x.1.1.1.1.1.1.0.now a.0.now; counters = x.1.0.now })
unfolding came_to Typed effect_of HandedOn
admit_steps κs a r x p small = record {
  typed = small;
  answer = ap (λ (w : Outcome ℕ × List ℕ × List ℕ). w.0) p;
  held = (refl, ap (λ (w : Outcome ℕ × List ℕ × List ℕ). held_after a.0.now w) p);
}

pub release_steps : (κs : _) (a : _) (r : _) (x : _) → releases.Post κs a r x → Bytes a.0.now
    → HostStep (release a.0.now a.1.0.now a.1.1.0 a.1.1.1.0.now) (record { plan = a.0.now; counters = a.1.0.now })
    (told r) (record { plan = plan_after (told r) x.1.1.1.0.now a.0.now; counters = x.1.0.now })
unfolding came_to Typed effect_of HandedOn
release_steps κs a r x p small = record {
  typed = small;
  answer = ap (λ (w : Outcome ℕ × List ℕ × List ℕ). w.0) p;
  held = (refl, ap (λ (w : Outcome ℕ × List ℕ × List ℕ). held_after a.0.now w) p);
}
