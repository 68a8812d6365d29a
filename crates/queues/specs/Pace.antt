-- What a hop has to do for a flow, and how a flow's packets may come.
use Rattle.std.specs.Prelude.{ℕ, suc, ◌+◌, ◌*◌, ◌≤◌, ◌<◌, min, ◌≡◌, true, List, [], ◌∷◌}
use Rattle.lists.specs.Lists.{total}
use Rattle.queues.specs.Cells.{Hop, Entry}

-- The hop sends in every run of as many slots as its gap, and what the rate brings in one gap is within its width.
pub record Serves (rate : ℕ) (h : Hop) : Type 0 where
  pub often : (start : ℕ) → (t : ℕ) × (start ≤ t) × (t < start + h.gap) × (h.sends t ≡ true)
  pub wide : rate * h.gap ≤ h.width

-- P holds of every element.
unfoldable pub All : {A : Type 0} → (A → Type 0) → List A → Type 0
All P [] = Unit
All P (x ∷ xs) = P x × All P xs

-- 01: the numbers of these slots, newest first, rise by one.
unfoldable pub Rising : List Entry → Type 0
Rising [] = Unit
Rising (e ∷ []) = Unit
Rising (e ∷ d ∷ slots) = (e.number ≡ suc d.number) × Rising (d ∷ slots)

-- 01: at most its rate arrives for the flow in a slot.
abbrev pub Within : ℕ → List Entry → Type 0
Within rate slots = All (λ (e : Entry). e.arrival ≤ rate) slots

-- A curve of arrivals, newest first, that starts at 0, is never above their sum, and rises in a slot by at most the rate.
pub record Curve (rate : ℕ) (curve : List ℕ → ℕ) : Type 0 where
  pub none : curve [] ≡ 0
  pub rises : (x : ℕ) (xs : List ℕ) → curve xs ≤ curve (x ∷ xs)
  pub slow : (x : ℕ) (xs : List ℕ) → curve (x ∷ xs) ≤ curve xs + rate
  pub below : (xs : List ℕ) → curve xs ≤ total xs

-- Such a curve: the part of the arrivals that comes at the pace of the rate.
unfoldable pub paced : ℕ → List ℕ → ℕ
paced rate [] = 0
paced rate (x ∷ xs) = min (x + total xs) (paced rate xs + rate)
