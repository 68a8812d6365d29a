-- Reservations in words of 'for all' and 'exists'. The laws of proofs/Laws.antt say that the definitions mean this.
use Rattle.std.specs.Prelude.{ℕ, ◌+◌, ◌*◌, ◌≤◌, ◌<◌, ◌≡◌, true, List, length, get_or}
use Rattle.site.specs.declared.Site.{Site}
use Rattle.tree.specs.Tree.{of_link}
use Rattle.site.specs.Sites.{live}
use Rattle.reservations.specs.Reservations.{load, delay_bound}

-- 01, Reservations: the widths on the link of node m sum to at most its capacity.
abbrev pub Carries : Site → ℕ → Type 0
Carries s m = load s m ≤ of_link s.capacities m

-- Every link does.
pub record Carried (s : Site) : Type 0 where
  pub within : (m : ℕ) → 1 ≤ m → m ≤ s.links → Carries s m

-- 01, 12: link m does not, and every lower one does.
pub record FullAt (s : Site) (m : ℕ) : Type 0 where
  pub link : (1 ≤ m) × (m ≤ s.links)
  pub over : of_link s.capacities m < load s m
  pub lower : (k : ℕ) → 1 ≤ k → k < m → Carries s k

-- 01, 17, and 02, U2: on the link of node m the width of a flow with this rate, rate × period, fits beside the live ones.
abbrev pub HasRoom : Site → ℕ → ℕ → Type 0
HasRoom s rate m = load s m + rate * of_link s.periods m ≤ of_link s.capacities m

-- It fits on every link of a route.
pub record RoomAlong (s : Site) (rate : ℕ) (links : List ℕ) : Type 0 where
  pub each : (j : ℕ) → j < length links → HasRoom s rate (get_or links j 0)

-- 01, 17: link m of the route has no room for it, and every link below m on the way up has.
pub record UnfitAt (s : Site) (rate : ℕ) (links : List ℕ) (m : ℕ) : Type 0 where
  pub at : ℕ
  pub link : (at < length links) × (get_or links at 0 ≡ m)
  pub over : of_link s.capacities m < load s m + rate * of_link s.periods m
  pub before : (j : ℕ) → j < at → HasRoom s rate (get_or links j 0)

-- 01, Reservations, and 02, U2: G of flow n, the periods on its route, is at most its deadline.
abbrev pub OnTime : Site → ℕ → Type 0
OnTime s n = delay_bound s n ≤ get_or s.deadlines n 0

-- Every live flow is on time.
pub record Punctual (s : Site) : Type 0 where
  pub within : (n : ℕ) → n < 64 → live s n ≡ true → OnTime s n

-- 01, 13: flow n is live and not on time, and every lower live flow is.
pub record LateAt (s : Site) (n : ℕ) : Type 0 where
  pub flow : (n < 64) × (live s n ≡ true)
  pub over : get_or s.deadlines n 0 < delay_bound s n
  pub lower : (k : ℕ) → k < n → live s k ≡ true → OnTime s k
