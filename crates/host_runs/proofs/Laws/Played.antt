-- A list of a host's calls as a list of calls on the site that the bytes read to: the accepted ones among those of demand 3.
use Prim.Native.Nat.{ℕ, ◌≤◌}
use mathlib.Core.Path.{◌≡◌, refl, sym, ◌∙◌, ap}
use mathlib.Core.List.{List, [], ◌∷◌, ◌++◌}
use lib.ListN.{get_or, take, drop}
use Rattle.rulings.specs.Outcome.{Outcome, Ruling, accepted, refused}
use Rattle.site.specs.declared.Site.{Site}
use Rattle.site.specs.declared.Flow.{Flow}
use Rattle.plan_reader.specs.Read.{read_of}
use Rattle.counters.specs.Blocks.{cells_of}
use Rattle.queues.specs.Cells.{Entry, arrived, waiting}
use Rattle.queues.specs.Pace.{All}
use Rattle.admission.specs.Calls.{admit_of, release_of}
use Rattle.moves.specs.Hops.{own}
use Rattle.simulation.specs.Slot.{slot_of, start_of}
use Rattle.guarantee.specs.Runs.{Call, State, Promise, Log, Run, none, then}
use Rattle.guarantee.specs.Runs as calls
use Rattle.guarantee.specs.Demand.{entered, slots_of, Stays, NoStart, Waits, JoinsIn, Joins}
use Rattle.host_calls.specs.Calls.{start_from, slot_from}
use Rattle.host_calls.proofs.Laws.{slot_plays, start_plays}
use Rattle.host_changes.specs.Changes.{admit_from, release_from}
use Rattle.host_changes.proofs.Laws.{admit_reads, release_reads}
use Rattle.host_runs.specs.Calls.{HostCall, read_plan, schedule, read_schedule, write_schedule, admit, release, start, slot, sender, bound, assign}
use Rattle.host_runs.specs.Calls.{came_to}
use Rattle.host_runs.specs.Lists.{Held, plan_after, held_after, Effect, keeps, plays, effect_of, HandedOn, HostStep, HostLog, HostRun, no_call, one_more}
use Rattle.host_runs.specs.Lists.{as_ruling, logged, log_of, state_of, HostWaits, HostJoins}
use Rattle.host_runs.proofs.Laws.Refused.{admit_leaves, release_leaves, start_leaves, slot_leaves}

-- A refused call leaves what is held.
change_kept : (plan counters out : List ℕ) (w : Outcome ℕ × List ℕ × List ℕ) (n p : ℕ) → w.0 ≡ refused n p → w.1 ∷ w.2 ∷ [] ≡ counters ∷ out ∷ []
    → held_after plan w ≡ record { plan = plan; counters = counters }
unfolding plan_after
change_kept plan counters out w n p e m = let c : w.1 ≡ counters = ap (λ (x : List (List ℕ)). get_or x 0 []) m in rw (e, c)

counters_kept : (plan counters : List ℕ) (w : Outcome ℕ × List ℕ) → w.1 ∷ [] ≡ counters ∷ []
    → ◌≡◌ {A = Held} (record { plan = plan; counters = w.1 }) (record { plan = plan; counters = counters })
counters_kept plan counters w m = let c : w.1 ≡ counters = ap (λ (x : List (List ℕ)). get_or x 0 []) m in rw c

held_still : (c : HostCall) (n p : ℕ) (h h' : Held) → refused n p ≡ (came_to c).0 → HandedOn (effect_of c) h h' → h' ≡ h
unfolding came_to effect_of HandedOn
held_still (read_plan plan) n p h h' e w = w
held_still (schedule plan out) n p h h' e w = w
held_still (read_schedule file offsets periods) n p h h' e w = w
held_still (write_schedule links offsets periods out) n p h h' e w = w
held_still (admit plan counters f out) n p h h' e w =
    w.1 ∙ change_kept plan counters out (admit_from plan counters f out) n p (sym e) (admit_leaves plan counters f out n p (sym e)) ∙ w.0
held_still (release plan counters m out) n p h h' e w =
    w.1 ∙ change_kept plan counters out (release_from plan counters m out) n p (sym e) (release_leaves plan counters m out n p (sym e)) ∙ w.0
held_still (start plan counters) n p h h' e w =
    w.1 ∙ counters_kept plan counters (start_from plan counters) (start_leaves plan counters n p (sym e)) ∙ w.0
held_still (slot plan counters xs t) n p h h' e w =
    w.1 ∙ counters_kept plan counters (slot_from plan counters xs t) (slot_leaves plan counters xs t n p (sym e)) ∙ w.0
held_still (sender plan parent t) n p h h' e w = w
held_still (bound plan n) m p h h' e w = w
held_still (assign gaps offsets periods) n p h h' e w = w

-- Bytes read to one site.
same_site : (o : Outcome Site) (s t : Site) → o ≡ accepted s → o ≡ accepted t → s ≡ t
same_site o s t a b = let e : ◌≡◌ {A = Outcome Site} (accepted s) (accepted t) = sym a ∙ b in cc

-- The calls on the site and the state that they lead to, and that what waits in their list waits in the host's.
pub record Follows (f : ℕ) (σ₀ : State) (h₀ : Held) (l : HostLog) (h : Held) (hosts : HostRun h₀ l h) : Type 0 where
  pub state : State
  pub reads : read_of h.plan ≡ accepted state.site
  pub same : state.counters ≡ h.counters
  pub log : Log
  pub run : Run own σ₀ log state
  pub slots : slots_of f log ≡ slots_of f (log_of l)
  pub stays : All (Stays f) log
  pub unbroken : All NoStart log
  pub waits : (n : ℕ) → Waits f n run → HostWaits f n hosts
  pub joins : (n : ℕ) → Joins f n run → HostJoins f n hosts

waits_now : {σ₀ : State} {l : Log} {σ : State} (f n : ℕ) (run : Run own σ₀ l σ) → Waits f n run → waiting (cells_of f σ.counters) ≤ n
unfolding Waits
waits_now f n none w = w
waits_now f n (then c r σ' run p) w = w.0

-- A refused call counts as no slot.
refused_slots : (f : ℕ) (c : HostCall) (n p : ℕ) (l : HostLog) → slots_of f (log_of ((c, refused n p) ∷ l)) ≡ slots_of f (log_of l)
unfolding log_of logged as_ruling slots_of entered
refused_slots f c n p l = go (effect_of c)
  where
    go : (e : Effect) → slots_of f (logged e (refused n p) ++ log_of l) ≡ slots_of f (log_of l)
    go keeps = refl
    go (plays (calls.slot t xs) got left) = refl
    go (plays (calls.admit g) got left) = refl
    go (plays (calls.release m) got left) = refl
    go (plays calls.start got left) = refl

-- A pair by its parts, a triple, and what is held after an accepted change.
pair : {A B : Type 0} (w : A × B) (a : A) → a ≡ w.0 → w ≡ (a, w.1)
pair w a e = rw e

pub triple : {A B C : Type 0} (w : A × B × C) (a : A) → a ≡ w.0 → w ≡ (a, w.1, w.2)
triple w a e = rw e

change_taken : (plan : List ℕ) (w : Outcome ℕ × List ℕ × List ℕ) (size : ℕ) → accepted size ≡ w.0
    → held_after plan w ≡ record { plan = take size w.2; counters = w.1 }
unfolding plan_after
change_taken plan w size e = rw (← e)

-- An accepted call is the call on the site that the held bytes read to, and the bytes that are then held read to the site that it leaves.
module _ (h h' : Held) (s : Site) (reads : read_of h.plan ≡ accepted s) where
  -- Of a call that leaves the bytes ..
  bytes_left : (plan counters ds : List ℕ) (call : Site → List ℕ → Ruling × List ℕ) → record { plan = plan; counters = counters } ≡ h
      → h' ≡ record { plan = plan; counters = ds } → (t : Site) × (read_of plan ≡ accepted t) × (call t counters ≡ (accepted tt, ds))
      → ((accepted tt, h'.counters) ≡ call s h.counters) × (read_of h'.plan ≡ accepted s)
  bytes_left plan counters ds call got left (t, d, e) =
      let is : t ≡ s = same_site _ _ _ d (ap (λ (g : Held). read_of g.plan) got ∙ reads) in
      (rw (← got, left, ← is) (sym e), ap (λ (g : Held). read_of g.plan) left ∙ rw is at d)

  -- .. and of a change.
  bytes_changed : (plan counters out ds new : List ℕ) (size : ℕ) (change : Site → List ℕ → Ruling × Site × List ℕ) → record { plan = plan; counters = counters } ≡ h
      → h' ≡ record { plan = take size new; counters = ds }
      → (t : Site) × (next : Site) × (read_of plan ≡ accepted t) × (change t counters ≡ (accepted tt, next, ds)) × (read_of (take size new) ≡ accepted next)
      × (drop size new ≡ drop size out)
      → (next : Site) × ((accepted tt, next, h'.counters) ≡ change s h.counters) × (read_of h'.plan ≡ accepted next)
  bytes_changed plan counters out ds new size change got left (t, next, d, e, r, m) =
      let is : t ≡ s = same_site _ _ _ d (ap (λ (g : Held). read_of g.plan) got ∙ reads) in
      (next, rw (← got, left, ← is) (sym e), ap (λ (g : Held). read_of g.plan) left ∙ r)

  pub slot_on : (plan counters xs : List ℕ) (t v : ℕ) → HostStep (slot plan counters xs t) h (accepted v) h'
      → Promise own (calls.slot t xs) (state_of s h) (accepted tt) (state_of s h') × (read_of h'.plan ≡ accepted s)
  unfolding Promise came_to effect_of HandedOn
  slot_on plan counters xs t v p =
      let w = bytes_left plan counters _ (λ s cs. slot_of own s cs xs t) p.held.0 p.held.1 (slot_plays plan counters xs t v _ (pair _ _ p.answer)) in
      ((w.0, refl), w.1)

  pub start_on : (plan counters : List ℕ) (v : ℕ) → HostStep (start plan counters) h (accepted v) h'
      → Promise own calls.start (state_of s h) (accepted tt) (state_of s h') × (read_of h'.plan ≡ accepted s)
  unfolding Promise came_to effect_of HandedOn
  start_on plan counters v p =
      let w = bytes_left plan counters _ start_of p.held.0 p.held.1 (start_plays plan counters v _ (pair _ _ p.answer)) in ((w.0, refl), w.1)

  pub admit_on : (plan counters : List ℕ) (g : Flow) (out : List ℕ) (v : ℕ) → HostStep (admit plan counters g out) h (accepted v) h'
      → (t : Site) × Promise own (calls.admit g) (state_of s h) (accepted tt) (state_of t h') × (read_of h'.plan ≡ accepted t)
  unfolding Promise came_to effect_of HandedOn
  admit_on plan counters g out v p =
      bytes_changed plan counters out _ _ v (λ s cs. admit_of s cs g) p.held.0 (p.held.1 ∙ change_taken plan _ v p.answer)
      (admit_reads plan counters g out v _ _ (triple _ _ p.answer))

  pub release_on : (plan counters : List ℕ) (n : ℕ) (out : List ℕ) (v : ℕ) → HostStep (release plan counters n out) h (accepted v) h'
      → (t : Site) × Promise own (calls.release n) (state_of s h) (accepted tt) (state_of t h') × (read_of h'.plan ≡ accepted t)
  unfolding Promise came_to effect_of HandedOn
  release_on plan counters n out v p =
      bytes_changed plan counters out _ _ v (λ s cs. release_of s cs n) p.held.0 (p.held.1 ∙ change_taken plan _ v p.answer)
      (release_reads plan counters n out v _ _ (triple _ _ p.answer))

-- The same call from a state with the same counters.
call_from : (k : Call) (σ σ' : State) (h : Held) → σ.counters ≡ h.counters → Promise own k (state_of σ.site h) (accepted tt) σ' → Promise own k σ (accepted tt) σ'
unfolding Promise
call_from (calls.slot t xs) σ σ' h e p = rw e p
call_from (calls.admit g) σ σ' h e p = rw e p
call_from (calls.release n) σ σ' h e p = rw e p
call_from calls.start σ σ' h e p = rw e p

-- What waits in an accepted slot of a list of calls on a site, waits there in the host's.
joins_one : (f n : ℕ) (k : Call) (σ : State) (h : Held) → σ.counters ≡ h.counters → JoinsIn f n k (accepted tt) σ
    → All (λ (e : Entry). waiting (arrived e.arrival (cells_of f h.counters)) ≤ n) (slots_of f ((k, accepted tt) ∷ []))
unfolding JoinsIn All slots_of entered
joins_one f n (calls.slot t xs) σ h e v = (rw (← e) v, tt)
joins_one f n (calls.admit g) σ h e v = tt
joins_one f n (calls.release m) σ h e v = tt
joins_one f n calls.start σ h e v = tt

module _ (f : ℕ) (σ₀ : State) (h₀ : Held) {l : HostLog} {h : Held} (hosts : HostRun h₀ l h) (w : Follows f σ₀ h₀ l h hosts) where
  -- A call that leaves all as it was and counts as no slot adds nothing to the list of calls on the site.
  still : (c : HostCall) (o : Outcome ℕ) (h' : Held) (p : HostStep c h o h') → h' ≡ h → ((m : HostLog) → slots_of f (log_of ((c, o) ∷ m)) ≡ slots_of f (log_of m))
      → Follows f σ₀ h₀ ((c, o) ∷ l) h' (one_more c o h' hosts p)
  unfolding HostWaits HostJoins All log_of slots_of
  still c o h' p e quiet = record {
    state = w.state;
    reads = rw e w.reads;
    same = rw e w.same;
    log = w.log;
    run = w.run;
    slots = w.slots ∙ sym (quiet l);
    stays = w.stays;
    unbroken = w.unbroken;
    waits = λ n v. (rw (e, ← w.same) (waits_now f n w.run v), w.waits n v);
    joins = λ n v. (rw (quiet []) tt, w.joins n v);
  }

  -- An accepted call of demand 3 is one more of them.
  moved : (c : HostCall) (o : Outcome ℕ) (h' : Held) (p : HostStep c h o h') (k : Call) (t : Site)
      → Promise own k (state_of w.state.site h) (accepted tt) (state_of t h') × (read_of h'.plan ≡ accepted t)
      → ((m : HostLog) → log_of ((c, o) ∷ m) ≡ (k, accepted tt) ∷ log_of m) → Stays f (k, accepted tt) → NoStart (k, accepted tt)
      → Follows f σ₀ h₀ ((c, o) ∷ l) h' (one_more c o h' hosts p)
  unfolding HostWaits HostJoins Waits Joins All slots_of log_of
  moved c o h' p k t q adds stay free = record {
    state = state_of t h';
    reads = q.1;
    same = refl;
    log = (k, accepted tt) ∷ w.log;
    run = then k (accepted tt) (state_of t h') w.run (call_from k w.state (state_of t h') h w.same q.0);
    slots = rw (adds l, w.slots);
    stays = (stay, w.stays);
    unbroken = (free, w.unbroken);
    waits = λ n v. (v.0, w.waits n v.1);
    joins = λ n v. (rw (adds []) (joins_one f n k w.state h w.same v.0), w.joins n v.1);
  }

  follow : (c : HostCall) (v : ℕ) (h' : Held) (p : HostStep c h (accepted v) h') → All (Stays f) (log_of ((c, accepted v) ∷ l)) → All NoStart (log_of ((c, accepted v) ∷ l))
      → Follows f σ₀ h₀ ((c, accepted v) ∷ l) h' (one_more c (accepted v) h' hosts p)
  unfolding effect_of HandedOn log_of logged as_ruling All NoStart
  follow (read_plan plan) v h' p d u = still _ _ h' p p.held (λ m. refl)
  follow (schedule plan out) v h' p d u = still _ _ h' p p.held (λ m. refl)
  follow (read_schedule file offsets periods) v h' p d u = still _ _ h' p p.held (λ m. refl)
  follow (write_schedule links offsets periods out) v h' p d u = still _ _ h' p p.held (λ m. refl)
  follow (admit plan counters g out) v h' p d u =
      let q = admit_on h h' w.state.site w.reads plan counters g out v p in moved _ _ h' p (calls.admit g) q.0 (q.1, q.2) (λ m. refl) d.0 u.0
  follow (release plan counters n out) v h' p d u =
      let q = release_on h h' w.state.site w.reads plan counters n out v p in
      moved _ _ h' p (calls.release n) q.0 (q.1, q.2) (λ m. refl) d.0 u.0
  follow (start plan counters) v h' p d u = absurd u.0
  follow (slot plan counters xs t) v h' p d u =
      moved _ _ h' p (calls.slot t xs) w.state.site (slot_on h h' w.state.site w.reads plan counters xs t v p) (λ m. refl) d.0 u.0
  follow (sender plan parent t) v h' p d u = still _ _ h' p p.held (λ m. refl)
  follow (bound plan n) v h' p d u = still _ _ h' p p.held (λ m. refl)
  follow (assign gaps offsets periods) v h' p d u = still _ _ h' p p.held (λ m. refl)

-- What is said of every call of a list is said of every call but the newest.
behind_newest : (P : Call × Ruling → Type 0) (e : Effect) (o : Outcome ℕ) (l : Log) → All P (logged e o ++ l) → All P l
unfolding logged All
behind_newest P keeps o l w = w
behind_newest P (plays k got left) o l w = w.1

module _ (f : ℕ) (s : Site) (h₀ : Held) (reads : read_of h₀.plan ≡ accepted s) where
  pub follows : {l : HostLog} {h : Held} (hosts : HostRun h₀ l h) → All (Stays f) (log_of l) → All NoStart (log_of l) → Follows f (state_of s h₀) h₀ l h hosts
  unfolding All log_of slots_of HostWaits HostJoins Waits
  follows no_call d u = record {
    state = state_of s h₀;
    reads = reads;
    same = refl;
    log = [];
    run = none;
    slots = refl;
    stays = tt;
    unbroken = tt;
    waits = λ n w. w;
    joins = λ n w. tt;
  }
  follows (one_more {l = l} {h = h} c o h' hosts p) d u =
      go (follows hosts (behind_newest (Stays f) (effect_of c) o (log_of l) d) (behind_newest NoStart (effect_of c) o (log_of l) u)) o p d u
    where
      go : Follows f (state_of s h₀) h₀ l h hosts → (o : Outcome ℕ) (p : HostStep c h o h') → All (Stays f) (log_of ((c, o) ∷ l)) → All NoStart (log_of ((c, o) ∷ l))
          → Follows f (state_of s h₀) h₀ ((c, o) ∷ l) h' (one_more c o h' hosts p)
      go w (accepted v) p d u = follow f (state_of s h₀) h₀ hosts w c v h' p d u
      go w (refused n q) p d u = still f (state_of s h₀) h₀ hosts w c (refused n q) h' p (held_still c n q h h' p.answer p.held) (refused_slots f c n q)
