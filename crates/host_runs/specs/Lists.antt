-- 01, the list of demand 3, of a host's calls: what a host holds between them, where a list begins, and what holds after it.
use Rattle.std.specs.Prelude.{ℕ, ◌+◌, ◌-◌, ◌*◌, ◌≤◌, ◌≡◌, true, List, [], ◌∷◌, ◌++◌, take}
use Rattle.rulings.specs.Outcome.{Outcome, Ruling, accepted, refused, Ruled}
use Rattle.lists.specs.Lists.{total}
use Rattle.site.specs.declared.Site.{Site}
use Rattle.site.specs.Sites.{live}
use Rattle.plan_reader.specs.Read.{read_of}
use Rattle.counters.specs.Blocks.{cells_of, zeros}
use Rattle.queues.specs.Cells.{Entry, arrived, steps, waiting, delivered, arrivals, all_but_newest}
use Rattle.queues.specs.Pace.{All}
use Rattle.moves.specs.Hops.{own, hops_of}
use Rattle.guarantee.specs.Runs.{Call, State, Log}
use Rattle.guarantee.specs.Runs as calls
use Rattle.guarantee.specs.Demand.{slots_of, rate_of, deadline_of, bound_of, Begins}
use Rattle.host_calls.specs.Calls.{start_from, slot_from}
use Rattle.host_changes.specs.Changes.{admit_from, release_from}
use Rattle.host_runs.specs.Calls.{HostCall, read_plan, schedule, read_schedule, write_schedule, admit, release, start, slot, sender, bound, assign, came_to}
use Rattle.host_runs.specs.Words.{Typed, host_checks, OfPlan, Gives}

-- What a host holds between calls.
pub record Held : Type 0 where
  pub plan : List ℕ
  pub counters : List ℕ

-- The plan bytes that a host holds after a change: as many bytes of the slice as an accepted one answers, and after a refused one the old bytes.
unfoldable pub plan_after : Outcome ℕ → List ℕ → List ℕ → List ℕ
plan_after (accepted size) new old = take size new
plan_after (refused number place) new old = old

abbrev pub held_after : List ℕ → Outcome ℕ × List ℕ × List ℕ → Held
held_after plan w = record { plan = plan_after w.0 w.2 plan; counters = w.1 }

-- A call leaves all that is held as it is, or it is one of a list of demand 3, for which it gets what is held, and leaves something in its place.
pub data Effect : Type 0 where
  keeps : Effect
  plays : (call : Call) (got left : Held) → Effect

unfoldable pub effect_of : HostCall → Effect
effect_of (read_plan plan) = keeps
effect_of (schedule plan out) = keeps
effect_of (read_schedule file offsets periods) = keeps
effect_of (write_schedule links offsets periods out) = keeps
effect_of (admit plan counters f out) =
    plays (calls.admit f) (record { plan = plan; counters = counters }) (held_after plan (admit_from plan counters f out))
effect_of (release plan counters n out) =
    plays (calls.release n) (record { plan = plan; counters = counters }) (held_after plan (release_from plan counters n out))
effect_of (start plan counters) =
    plays calls.start (record { plan = plan; counters = counters }) (record { plan = plan; counters = (start_from plan counters).1 })
effect_of (slot plan counters xs t) =
    plays (calls.slot t xs) (record { plan = plan; counters = counters }) (record { plan = plan; counters = (slot_from plan counters xs t).1 })
effect_of (sender plan parent t) = keeps
effect_of (bound plan n) = keeps
effect_of (assign gaps offsets periods) = keeps

-- 01: each call gets the site and the counters that the last one left. One that keeps them may get anything.
unfoldable pub HandedOn : Effect → Held → Held → Type 0
HandedOn keeps h h' = h' ≡ h
HandedOn (plays call got left) h h' = (got ≡ h) × (h' ≡ left)

-- One call of a host that holds h: it answers o, and then the host holds h'.
pub record HostStep (c : HostCall) (h : Held) (o : Outcome ℕ) (h' : Held) : Type 0 where
  pub typed : Typed c
  pub answer : o ≡ (came_to c).0
  pub held : HandedOn (effect_of c) h h'

-- The calls made and their answers, newest first; and a list of calls, with what is held before and after it.
abbrev pub HostLog : Type 0
HostLog = List (HostCall × Outcome ℕ)

pub data HostRun (h₀ : Held) : HostLog → Held → Type 0 where
  no_call : HostRun h₀ [] h₀
  one_more : {l : HostLog} {h : Held} (c : HostCall) (o : Outcome ℕ) (h' : Held) → HostRun h₀ l h → HostStep c h o h' → HostRun h₀ ((c, o) ∷ l) h'

-- The same as a list of calls on a site. A value plays no part there, and neither do the calls that keep what is held.
unfoldable pub as_ruling : Outcome ℕ → Ruling
as_ruling (accepted value) = accepted tt
as_ruling (refused number place) = refused number place

unfoldable pub logged : Effect → Outcome ℕ → Log
logged keeps o = []
logged (plays call got left) o = (call, as_ruling o) ∷ []

unfoldable pub log_of : HostLog → Log
log_of [] = []
log_of ((c, o) ∷ l) = logged (effect_of c) o ++ log_of l

-- What is held, as a site with counters.
abbrev pub state_of : Site → Held → State
state_of s h = record { site = s; counters = h.counters }

-- 01, how a list begins: the bytes read to site s, which passes check 14, there are 576 counters, and flow f is live with nine cells of 0.
abbrev pub HostBegins : ℕ → Site → Held → Type 0
HostBegins f s h = (read_of h.plan ≡ accepted s) × Begins f (state_of s h)

-- 01: each call has the outcome that its first failing check gives it, with the value that its words name, and says so in its answer.
unfoldable pub HostAnswered : {h₀ : Held} {l : HostLog} {h : Held} → HostRun h₀ l h → Type 0
HostAnswered no_call = Unit
HostAnswered (one_more c o h' run p) = Ruled (Gives c) (host_checks c) o × HostAnswered run

-- 01: at most n packets of flow f wait after every call, and at the beginning.
unfoldable pub HostWaits : {h₀ : Held} {l : HostLog} {h : Held} → ℕ → ℕ → HostRun h₀ l h → Type 0
HostWaits {h₀ = h₀} f n no_call = waiting (cells_of f h₀.counters) ≤ n
HostWaits f n (one_more c o h' run p) = (waiting (cells_of f h'.counters) ≤ n) × HostWaits f n run

-- 01: and so in each accepted slot when its arrivals have just joined.
unfoldable pub HostJoins : {h₀ : Held} {l : HostLog} {h : Held} → ℕ → ℕ → HostRun h₀ l h → Type 0
HostJoins f n no_call = Unit
HostJoins f n (one_more {h = h} c o h' run p) =
    All (λ (e : Entry). waiting (arrived e.arrival (cells_of f h.counters)) ≤ n) (slots_of f (log_of ((c, o) ∷ []))) × HostJoins f n run

-- 01, after every list that begins on site s:
pub record HostKept (f : ℕ) (s : Site) (h₀ : Held) (l : HostLog) (h : Held) (run : HostRun h₀ l h) : Type 0 where
  -- each call has the outcome of its checks, and its answer says so;
  pub answers : HostAnswered run
  -- the bytes that are held read to a site on which the flow is live;
  pub standing : OfPlan h.plan (λ t. live t f ≡ true)
  -- the flow's nine cells are what the rules of 'One slot' give from nine zeros, its hops and the accepted slots alone;
  pub cells : cells_of f h.counters ≡ steps (hops_of own s f) (zeros 9) (slots_of f (log_of l))
  -- its arrivals are in its queues or delivered;
  pub all : total (arrivals (slots_of f (log_of l))) ≡ waiting (cells_of f h.counters) + delivered (cells_of f h.counters)
  -- its arrivals in all accepted slots but the last G - 1 are delivered;
  pub delay : total (all_but_newest (bound_of own s f - 1) (arrivals (slots_of f (log_of l)))) ≤ delivered (cells_of f h.counters)
  -- G is at most its deadline;
  pub deadline : bound_of own s f ≤ deadline_of s f
  -- at most rate × G of its packets wait after every call,
  pub waits : HostWaits f (rate_of s f * bound_of own s f) run
  -- and in each accepted slot when its arrivals have just joined.
  pub joins : HostJoins f (rate_of s f * bound_of own s f) run
