-- Admission and release in words of 'for all' and 'exists'. The laws of proofs/Laws.antt say that the definitions mean this.
use Rattle.std.specs.Prelude.{ℕ, ◌≤◌, ◌<◌, ◌≡◌, true, false, List, length}
use Rattle.rulings.specs.Outcome.{Checks, none, check}
use Rattle.site.specs.declared.Site.{Site}
use Rattle.site.specs.declared.Flow.{Flow}
use Rattle.site.specs.Sites.{live}
use Rattle.reservations.specs.Reservations.{along}
use Rattle.reservations.specs.Words.{RoomAlong, UnfitAt}
use Rattle.limits.specs.Words.{FlowGood, flow_checks}
use Rattle.flow_checks.specs.Flows.{route_for}
use Rattle.site_check.specs.Words.{Sound, call_checks}

-- 02, U2: the number that 18 judges, the periods on the route that the flow would have, summed. The law `bound_asked` says that this is G once it is live.
abbrev pub bound_for : Site → Flow → ℕ
bound_for s f = along s.periods (route_for s f)

-- 01: a flow is admitted where there are 576 counters, the site is one that check 14 lets pass, the flow's operands are within their limits, it enters at
-- one of the nodes, its number is not live, on each link of its route the live widths and its own are together within the capacity, and G as it
-- will have it is within its deadline.
pub record Admissible (s : Site) (counters : List ℕ) (f : Flow) : Type 0 where
  pub counted : length counters ≡ 576
  pub sound : Sound s
  pub good : FlowGood s.links 0 f
  pub free : live s f.number ≡ false
  pub room : RoomAlong s f.rate (route_for s f)
  pub time : bound_for s f ≤ f.deadline

-- 01: a flow is released where there are 576 counters, the site is one that check 14 lets pass, and the number is one of the 64 and live.
pub record Releasable (s : Site) (counters : List ℕ) (n : ℕ) : Type 0 where
  pub counted : length counters ≡ 576
  pub sound : Sound s
  pub few : n ≤ 63
  pub living : live s n ≡ true

-- 01, the order of an admission's checks, each with its place: 1, 14, 5, 6, 15, 17, 18.
abbrev pub admission_checks : Site → List ℕ → Flow → Checks
admission_checks s counters f =
    call_checks s counters
    (flow_checks s.links f
    (check 15 (λ p. (live s f.number ≡ true) × (p ≡ f.number))
    (check 17 (λ p. UnfitAt s f.rate (route_for s f) p)
    (check 18 (λ p. (f.deadline < bound_for s f) × (p ≡ f.number))
    none))))

-- 01, the order of a release's checks: 1, 14, 5, 16.
abbrev pub release_checks : Site → List ℕ → ℕ → Checks
release_checks s counters n =
    call_checks s counters
    (check 5 (λ p. (63 < n) × (p ≡ 0))
    (check 16 (λ p. (live s n ≡ false) × (p ≡ n))
    none))
