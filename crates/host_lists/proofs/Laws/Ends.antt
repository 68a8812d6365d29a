-- One law for each way that a call on lists ends.
use Prim.Native.Nat.{ℕ, ◌≤◌, ◌<◌, ◌^◌}
use mathlib.Core.Path.{◌≡◌, refl, sym, ap}
use mathlib.Core.Bool.{Bool, true, false, not, cond}
use mathlib.Core.List.{List, [], ◌∷◌}
use lib.Dec.{eqb, ltb}
use lib.ListN.{length, get_or}
use borrow.Author.Tests.{ltb-true, ltb-false}
use native.Mathlib.Omega.{arith}
use Rattle.rulings.specs.Outcome.{Outcome, accepted, refused}
use Rattle.lists.specs.Lists.{smallest}
use Rattle.lists.proofs.Laws.Search.{last_le}
use Rattle.slot_rule.specs.Rule.{fits, base, periods_of, offsets_of}
use Rattle.slot_rule.specs.Assign.{first_bad, assigned}
use Rattle.slot_rule.proofs.Laws.Bases.{smallest_within}
use Rattle.format.specs.Words.{Bytes}
use Rattle.schedule_reader.specs.Read.{schedule_read}
use Rattle.plan.proofs.Laws.Near.{schedule_near}
use Rattle.host_answers.specs.Answers.{told, answer_of}
use Rattle.host_answers.proofs.Laws.Told.{told_no, Room, value_room, refusal_room}

-- The refusal of a reading, as an answer.
pub schedule_told : (bytes : List ℕ) → Bytes bytes → (number place answer : ℕ) → refused number place ≡ schedule_read bytes
    → answer ≡ answer_of (refused number place) → told answer ≡ refused number place
schedule_told bytes small number place answer e r =
    let near = schedule_near bytes small number place (sym e) in told_no answer number place r near.0 (omega (arith, near.1))

-- A base is at most the first gap, which has 16 bits.
base_most : (f : ℕ) (gaps : List ℕ) → base f gaps ≤ get_or gaps 0 0
unfolding base smallest
base_most f [] = last_le (λ b. fits f b []) (smallest [])
base_most f (x ∷ xs) = omega (arith, last_le (λ b. fits f b (x ∷ xs)) (smallest (x ∷ xs)), smallest_within (x ∷ xs) 0 (omega arith))

-- What the slot rule answers has room, whatever refuses the call; two lists stand beside the outcome.
abbrev RoomAssign : Outcome ℕ × List ℕ × List ℕ → Type 0
RoomAssign r = Room r.0

assign_check : (t : Bool) (number place : ℕ) (offsets periods : List ℕ) (rest : Outcome ℕ × List ℕ × List ℕ) → 1 ≤ number → (t ≡ true → place ≤ 763)
    → RoomAssign rest → RoomAssign (cond t (refused number place, offsets, periods) rest)
assign_check true number place offsets periods rest l m w = refusal_room number place l (m refl)
assign_check false number place offsets periods rest l m w = w

module _ (f : ℕ) (gaps offsets periods : List ℕ) (small : get_or gaps 0 0 < 2 ^ 16) where
  assign_room : RoomAssign (assigned f gaps offsets periods)
  unfolding assigned
  assign_room =
      assign_check (not (eqb (length offsets) (length gaps))) 1 0 _ _ _ (omega arith) (λ e. omega arith)
      (assign_check (not (eqb (length periods) (length gaps))) 1 0 _ _ _ (omega arith) (λ e. omega arith)
      (assign_check (eqb (length gaps) 0) 5 0 _ _ _ (omega arith) (λ e. omega arith)
      (many (ltb 63 (length gaps)) refl)))
    where
      fitted : length gaps ≤ 63 → RoomAssign
          (cond (ltb (first_bad gaps) (length gaps)) (refused 5 (first_bad gaps), offsets, periods)
          (cond (eqb (base f gaps) 0) (refused 11 0, offsets, periods) (accepted (base f gaps), offsets_of f gaps, periods_of f gaps)))
      fitted l =
          assign_check (ltb (first_bad gaps) (length gaps)) 5 (first_bad gaps) _ _ _ (omega arith) (λ e. omega (arith, ltb-true (first_bad gaps) (length gaps) e))
          (assign_check (eqb (base f gaps) 0) 11 0 _ _ _ (omega arith) (λ e. omega arith) (value_room (base f gaps) (omega (arith, base_most f gaps))))

      many : (b : Bool) → ltb 63 (length gaps) ≡ b → RoomAssign
          (cond b (refused 5 0, offsets, periods)
          (cond (ltb (first_bad gaps) (length gaps)) (refused 5 (first_bad gaps), offsets, periods)
          (cond (eqb (base f gaps) 0) (refused 11 0, offsets, periods) (accepted (base f gaps), offsets_of f gaps, periods_of f gaps))))
      many true e = refusal_room 5 0 (omega arith) (omega arith)
      many false e = fitted (ltb-false _ _ e)

  pub assigned_room : (o : Outcome ℕ) (os ps : List ℕ) → (o, os, ps) ≡ assigned f gaps offsets periods → Room o
  assigned_room o os ps e = rw (ap (λ (q : Outcome ℕ × List ℕ × List ℕ). q.0) e) assign_room
