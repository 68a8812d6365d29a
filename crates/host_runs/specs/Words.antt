-- What a host's calls check and what they give, in words of 'for all' and 'exists'. The law `host_first` of proofs/Laws.antt says that the calls mean this.
use Rattle.std.specs.Prelude.{ℕ, ◌+◌, ◌*◌, ◌<◌, ◌≡◌, true, false, List, ◌⊎◌, length, get_or}
use Rattle.rulings.specs.Outcome.{Outcome, accepted, refused, Checks, none, check}
use Rattle.site.specs.declared.Site.{Site}
use Rattle.site.specs.Sites.{live, flow_count, with_flow, without_flow}
use Rattle.slot_rule.specs.Words.{InLimits, LargestFit, NoneFits}
use Rattle.schedule.specs.Schedule.{scheduled}
use Rattle.schedule.specs.Words.{Served, CrowdedAt}
use Rattle.reservations.specs.Reservations.{delay_bound}
use Rattle.reservations.specs.Words.{Carried, FullAt, LateAt, UnfitAt}
use Rattle.limits.specs.Words.{flow_checks}
use Rattle.flow_checks.specs.Flows.{route_for}
use Rattle.slot_checks.specs.Words.{Overflows, Unexpected, Lowest}
use Rattle.format.specs.Words.{Bytes}
use Rattle.schedule_check.specs.declared.Schedule.{Schedule}
use Rattle.schedule_check.specs.Schedules.{of_lists}
use Rattle.schedule_check.specs.Words.{Listed}
use Rattle.schedule_reader.specs.Read.{schedule_read}
use Rattle.schedule_writer.specs.Write.{schedule_of, schedule_bytes}
use Rattle.plan_reader.specs.Read.{read_of}
use Rattle.plan_writer.specs.Write.{plan_bytes}
use Rattle.admission.specs.Words.{bound_for}
use Rattle.sender.specs.Words.{SendingChild}
use Rattle.plan.specs.Words.{InForm, FormFails}
use Rattle.plan.specs.ScheduleWords.{ScheduleFails}
use Rattle.host_runs.specs.Calls.{HostCall, read_plan, schedule, read_schedule, write_schedule, admit, release, start, slot, sender, bound, assign}

-- What is read is bytes, as the types of the functions' parameters say.
unfoldable pub Typed : HostCall → Type 0
Typed (read_plan plan) = Bytes plan
Typed (schedule plan out) = Bytes plan
Typed (read_schedule file offsets periods) = Bytes file
Typed (write_schedule links offsets periods out) = Unit
Typed (admit plan counters f out) = Bytes plan
Typed (release plan counters n out) = Bytes plan
Typed (start plan counters) = Bytes plan
Typed (slot plan counters arrivals t) = Bytes plan
Typed (sender plan parent t) = Bytes plan
Typed (bound plan n) = Bytes plan
Typed (assign gaps offsets periods) = Unit

-- 01, 1: a list of a stated length has another one. Then the other checks.
abbrev pub length_checks : List ℕ → ℕ → Checks → Checks
length_checks list n others = check 1 (λ p. (length list ≡ n → ⊥) × (p ≡ 0)) others

-- 01, 1: the slice is too short for the bytes that a writer puts there; judged last.
abbrev pub room_check : List ℕ → List ℕ → Checks
room_check bytes out = check 1 (λ p. (length out < length bytes) × (p ≡ 0)) none

-- 01, what refuses plan bytes: for a command 3, 2, 4, 7, 5, 6, 8; for END 10; then 11, 12, 13. `FormFails` is about the first command that fails any of its checks,
-- and about its first one, so of the eight numbers up to 10 one fails at most.
abbrev pub plan_checks : List ℕ → Checks → Checks
plan_checks bytes others =
    check 3 (λ p. FormFails bytes 3 p)
    (check 2 (λ p. FormFails bytes 2 p)
    (check 4 (λ p. FormFails bytes 4 p)
    (check 7 (λ p. FormFails bytes 7 p)
    (check 5 (λ p. FormFails bytes 5 p)
    (check 6 (λ p. FormFails bytes 6 p)
    (check 8 (λ p. FormFails bytes 8 p)
    (check 10 (λ p. FormFails bytes 10 p)
    (check 11 (λ p. (s : Site) × InForm bytes s × CrowdedAt s p)
    (check 12 (λ p. (s : Site) × InForm bytes s × (Served s × FullAt (scheduled s) p))
    (check 13 (λ p. (s : Site) × InForm bytes s × (Served s × Carried (scheduled s) × LateAt (scheduled s) p))
    others))))))))))

-- 02, U1, what refuses a schedule file: for a command 3, 2, 21, 22; for END 10.
abbrev pub file_checks : List ℕ → Checks
file_checks file =
    check 3 (λ p. ScheduleFails file 3 p)
    (check 2 (λ p. ScheduleFails file 2 p)
    (check 21 (λ p. ScheduleFails file 21 p)
    (check 22 (λ p. ScheduleFails file 22 p)
    (check 10 (λ p. ScheduleFails file 10 p)
    none))))

-- Checks of what was read; there are none where nothing was.
unfoldable pub on_read : Outcome Site → (Site → Checks) → Checks
on_read (accepted s) checks = checks s
on_read (refused number place) checks = none

-- 01, 14 of a host, who hands in plan bytes for a site: they read to no site. Then the checks of the site that they read to.
abbrev pub standing_checks : List ℕ → (Site → Checks) → Checks
standing_checks plan checks = check 14 (λ p. ((s : Site) → read_of plan ≡ accepted s → ⊥) × (p ≡ 0)) (on_read (read_of plan) checks)

-- 01, 5 and 16 of a number that is to be live.
abbrev pub number_checks : Site → ℕ → Checks → Checks
number_checks s n others = check 5 (λ p. (63 < n) × (p ≡ 0)) (check 16 (λ p. (live s n ≡ false) × (p ≡ n)) others)

-- 01, 5 of the slot rule: the first gap outside its limits.
pub record FirstOutside (gaps : List ℕ) (p : ℕ) : Type 0 where
  pub within : p < length gaps
  pub here : InLimits (get_or gaps p 0) → ⊥
  pub before : (i : ℕ) → i < p → InLimits (get_or gaps i 0)

-- 01, the order of each call's checks, with their places.
unfoldable pub host_checks : HostCall → Checks
host_checks (read_plan plan) = plan_checks plan none
host_checks (schedule plan out) = plan_checks plan (on_read (read_of plan) (λ s. room_check (schedule_bytes (schedule_of s)) out))
host_checks (read_schedule file offsets periods) = length_checks offsets 63 (length_checks periods 63 (file_checks file))
host_checks (write_schedule links offsets periods out) =
    length_checks offsets 63
    (length_checks periods 63
    (check 14 (λ p. (Listed (of_lists links offsets periods) → ⊥) × (p ≡ 0))
    (room_check (schedule_bytes (of_lists links offsets periods)) out)))
host_checks (admit plan counters f out) =
    length_checks counters 576
    (standing_checks plan (λ s. flow_checks s.links f
    (check 15 (λ p. (live s f.number ≡ true) × (p ≡ f.number))
    (check 17 (λ p. UnfitAt s f.rate (route_for s f) p)
    (check 18 (λ p. (f.deadline < bound_for s f) × (p ≡ f.number))
    (room_check (plan_bytes (with_flow s f)) out))))))
host_checks (release plan counters n out) =
    length_checks counters 576 (standing_checks plan (λ s. number_checks s n (room_check (plan_bytes (without_flow s n)) out)))
host_checks (start plan counters) = length_checks counters 576 (standing_checks plan (λ s. none))
host_checks (slot plan counters arrivals t) =
    length_checks counters 576
    (length_checks arrivals 64
    (standing_checks plan (λ s. check 19 (λ p. Lowest (Overflows s counters arrivals) p)
    (check 20 (λ p. Lowest (Unexpected s arrivals) p)
    none))))
host_checks (sender plan parent t) = standing_checks plan (λ s. check 6 (λ p. (s.links < parent) × (p ≡ 0)) none)
host_checks (bound plan n) = standing_checks plan (λ s. number_checks s n none)
host_checks (assign gaps offsets periods) =
    length_checks offsets (length gaps)
    (length_checks periods (length gaps)
    (check 5 (λ p. ((length gaps ≡ 0) ⊎ (63 < length gaps)) × (p ≡ 0))
    (check 5 (λ p. FirstOutside gaps p)
    (check 11 (λ p. NoneFits 2 gaps × (p ≡ 0))
    none))))

-- The plan bytes read to a site, and this holds of it.
abbrev pub OfPlan : List ℕ → (Site → Type 0) → Type 0
OfPlan plan P = (s : Site) × (read_of plan ≡ accepted s) × P s

-- What an accepted call gives: links and flows, the number of bytes written, the number of links, the child that sends, G, the base; else 0.
unfoldable pub Gives : HostCall → ℕ → Type 0
Gives (read_plan plan) v = OfPlan plan (λ s. v ≡ s.links + 256 * flow_count s)
Gives (schedule plan out) v = OfPlan plan (λ s. v ≡ length (schedule_bytes (schedule_of s)))
Gives (read_schedule file offsets periods) v = (s : Schedule) × (schedule_read file ≡ accepted s) × (v ≡ s.links)
Gives (write_schedule links offsets periods out) v = v ≡ length (schedule_bytes (of_lists links offsets periods))
Gives (admit plan counters f out) v = OfPlan plan (λ s. v ≡ length (plan_bytes (with_flow s f)))
Gives (release plan counters n out) v = OfPlan plan (λ s. v ≡ length (plan_bytes (without_flow s n)))
Gives (start plan counters) v = v ≡ 0
Gives (slot plan counters arrivals t) v = v ≡ 0
Gives (sender plan parent t) v = OfPlan plan (λ s. SendingChild s parent t v)
Gives (bound plan n) v = OfPlan plan (λ s. v ≡ delay_bound s n)
Gives (assign gaps offsets periods) v = LargestFit 2 gaps v
