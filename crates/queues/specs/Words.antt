-- One slot of one flow in words of 'for all', cell by cell. The law `step_when` of proofs/Laws.antt says that `step` means this.
use Rattle.std.specs.Prelude.{ℕ, zero, suc, ◌+◌, ◌-◌, ◌≤◌, ◌<◌, ◌≡◌, false, List, length, get_or}
use Rattle.queues.specs.Cells.{Hop, moved, delivered}

-- The hop of number k from the entry link upward, 0 for the entry link itself. Beyond the route there is none: it never sends.
abbrev pub hop_at : List Hop → ℕ → Hop
hop_at hs k = get_or hs k (record { sends = λ t. false; width = 0; gap = 0 })

-- 01: the queue of number k as it stands after x arrivals, which join the first.
abbrev pub held : ℕ → List ℕ → ℕ → ℕ
held x cells zero = get_or cells 0 0 + x
held x cells (suc k) = get_or cells (suc k) 0

-- What hop k moves in slot t, judged on that queue; and what hop k gets from the one before it.
abbrev pub moved_by : List Hop → ℕ → ℕ → List ℕ → ℕ → ℕ
moved_by hs t x cells k = moved (hop_at hs k) t (held x cells k)

abbrev pub moved_to : List Hop → ℕ → ℕ → List ℕ → ℕ → ℕ
moved_to hs t x cells zero = 0
moved_to hs t x cells (suc k) = moved_by hs t x cells k

-- 01, One slot: `after` are the nine cells after slot t with x arrivals. Each queue of the route loses what its hop moves and gets what the one before moves, the
-- delivered count gets what the last hop moves, and the cells past the route stay.
pub record Stepped (hs : List Hop) (t x : ℕ) (cells after : List ℕ) : Type 0 where
  pub nine : length after ≡ 9
  pub queue : (k : ℕ) → k < length hs → get_or after k 0 ≡ held x cells k - moved_by hs t x cells k + moved_to hs t x cells k
  pub past : (k : ℕ) → length hs ≤ k → k < 8 → get_or after k 0 ≡ get_or cells k 0
  pub count : delivered after ≡ delivered cells + moved_to hs t x cells (length hs)

-- 01: packet n of a flow, numbered from 1, has left once the delivered count is at least n.
abbrev pub HasLeft : ℕ → List ℕ → Type 0
HasLeft n cells = n ≤ delivered cells
