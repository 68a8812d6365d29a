-- What is proved of one flow's queues: one slot in words, cell by cell, and that a packet that has left stays so. The modules named here hold what a slot does to the
-- sum of the cells; the delay and the backlog of a flow whose hops serve it, for any curve below its arrivals: `delivered_by`, `waiting_after` and `waiting_within`; and
-- that packets leave first come, first served: `cells_lengths`, `in_order_lem`, `first_served` and `left_when`.
pub mod Cells
pub mod Delay
pub mod Packets
use Prim.Native.Nat.{ℕ, zero, suc, ◌+◌, ◌-◌, ◌≤◌, ◌<◌}
use mathlib.Core.Path.{◌≡◌, refl, sym, ◌∙◌}
use mathlib.Core.List.{List, [], ◌∷◌}
use mathlib.Core.Logic.{◌⊎◌, inl, inr, ◌↔◌}
use lib.ListN.{length, get_or}
use lib.Seq.{ext_get_or}
use native.Mathlib.Omega.{arith}
use Rattle.lists.proofs.Laws.Search.{lt_or_le}
use Rattle.queues.specs.Cells.{Hop, Entry, moved, arrived, delivering, passed, step, steps, delivered}
use Rattle.queues.specs.Words.{hop_at, held, moved_to, Stepped, HasLeft}
use Rattle.queues.proofs.Laws.Cells.{length_arrived, length_step, length_steps}

-- Packets that are delivered change the last cell and no other.
delivering_before : (n : ℕ) (cs : List ℕ) (k : ℕ) → k + 1 < length cs → get_or (delivering n cs) k 0 ≡ get_or cs k 0
unfolding delivering
delivering_before n [] k l = absurd (omega arith)
delivering_before n (c ∷ []) k l = absurd (omega arith)
delivering_before n (c ∷ d ∷ cs) zero l = refl
delivering_before n (c ∷ d ∷ cs) (suc k) l = delivering_before n (d ∷ cs) k (omega arith)

delivering_last : (n : ℕ) (cs : List ℕ) (k : ℕ) → k + 1 ≡ length cs → get_or (delivering n cs) k 0 ≡ get_or cs k 0 + n
unfolding delivering
delivering_last n [] k l = absurd (omega arith)
delivering_last n (c ∷ []) zero l = refl
delivering_last n (c ∷ []) (suc k) l = absurd (omega arith)
delivering_last n (c ∷ d ∷ cs) zero l = absurd (omega arith)
delivering_last n (c ∷ d ∷ cs) (suc k) l = delivering_last n (d ∷ cs) k (omega arith)

-- What comes to queue k, where `coming` comes to the first and the queues are as in `cs`.
abbrev comes : List Hop → ℕ → ℕ → List ℕ → ℕ → ℕ
comes hs t coming cs zero = coming
comes hs t coming cs (suc k) = moved (hop_at hs k) t (get_or cs k 0)

module _ (t : ℕ) where
  comes_rest : (h : Hop) (hs : List Hop) (coming q : ℕ) (cs : List ℕ) (k : ℕ) → comes hs t (moved h t q) cs k ≡ comes (h ∷ hs) t coming (q ∷ cs) (suc k)
  comes_rest h hs coming q cs zero = refl
  comes_rest h hs coming q cs (suc k) = refl

  -- A queue of the route, a cell past it, and the delivered count.
  passed_at : (hs : List Hop) (coming : ℕ) (cs : List ℕ) (k : ℕ) → k < length hs → length hs < length cs
      → get_or (passed hs t coming cs) k 0 ≡ get_or cs k 0 - moved (hop_at hs k) t (get_or cs k 0) + comes hs t coming cs k
  unfolding passed
  passed_at [] coming cs k l m = absurd (omega arith)
  passed_at (h ∷ hs) coming [] k l m = absurd (omega arith)
  passed_at (h ∷ hs) coming (q ∷ cs) zero l m = refl
  passed_at (h ∷ hs) coming (q ∷ cs) (suc k) l m =
      rw (← comes_rest h hs coming q cs k) (passed_at hs (moved h t q) cs k (omega arith) (omega arith))

  passed_past : (hs : List Hop) (coming : ℕ) (cs : List ℕ) (k : ℕ) → length hs ≤ k → k + 1 < length cs → get_or (passed hs t coming cs) k 0 ≡ get_or cs k 0
  unfolding passed
  passed_past [] coming cs k l m = delivering_before coming cs k m
  passed_past (h ∷ hs) coming [] k l m = absurd (omega arith)
  passed_past (h ∷ hs) coming (q ∷ cs) zero l m = absurd (omega arith)
  passed_past (h ∷ hs) coming (q ∷ cs) (suc k) l m = passed_past hs (moved h t q) cs k (omega arith) (omega arith)

  passed_last : (hs : List Hop) (coming : ℕ) (cs : List ℕ) (k : ℕ) → length hs < length cs → k + 1 ≡ length cs
      → get_or (passed hs t coming cs) k 0 ≡ get_or cs k 0 + comes hs t coming cs (length hs)
  unfolding passed
  passed_last [] coming cs k l m = delivering_last coming cs k m
  passed_last (h ∷ hs) coming [] k l m = absurd (omega arith)
  passed_last (h ∷ hs) coming (q ∷ cs) zero l m = absurd (omega arith)
  passed_last (h ∷ hs) coming (q ∷ cs) (suc k) l m =
      rw (← comes_rest h hs coming q cs (length hs)) (passed_last hs (moved h t q) cs k (omega arith) (omega arith))

-- The queues after arrivals, and what comes to each of them, are those of the words.
held_is : (x : ℕ) (cs : List ℕ) → 0 < length cs → (k : ℕ) → get_or (arrived x cs) k 0 ≡ held x cs k
unfolding arrived
held_is x [] l k = absurd (omega arith)
held_is x (q ∷ cs) l zero = refl
held_is x (q ∷ cs) l (suc k) = refl

comes_is : (hs : List Hop) (t x : ℕ) (cs : List ℕ) → 0 < length cs → (k : ℕ) → comes hs t 0 (arrived x cs) k ≡ moved_to hs t x cs k
comes_is hs t x cs l zero = refl
comes_is hs t x cs l (suc k) = rw (held_is x cs l k)

module _ (hs : List Hop) (t x : ℕ) (cs : List ℕ) (nine : length cs ≡ 9) (some : 1 ≤ length hs) (few : length hs ≤ 8) where
  long : length (arrived x cs) ≡ 9
  long = length_arrived x cs ∙ nine

  -- A slot is what the words say of it ..
  step_is : Stepped hs t x cs (step hs t x cs)
  unfolding step delivered
  step_is = record {
    nine = length_step hs t x cs ∙ nine;
    queue = λ k l. passed_at t hs 0 (arrived x cs) k l (omega (arith, long)) ∙ rw (held_is x cs (omega arith) k, comes_is hs t x cs (omega arith) k);
    past = λ k l m. passed_past t hs 0 (arrived x cs) k l (omega (arith, long)) ∙ held_is x cs (omega arith) k ∙ later k (omega arith);
    count = passed_last t hs 0 (arrived x cs) 8 (omega (arith, long)) (omega (arith, long))
        ∙ rw (held_is x cs (omega arith) 8, comes_is hs t x cs (omega arith) (length hs));
  }
    where
      later : (k : ℕ) → 0 < k → held x cs k ≡ get_or cs k 0
      later zero l = absurd (omega arith)
      later (suc k) l = refl

  -- .. and nothing else is.
  pub step_when : (after : List ℕ) → (step hs t x cs ≡ after) ↔ Stepped hs t x cs after
  unfolding delivered
  step_when after = (λ e. rw e at step_is, λ w. ext_get_or 0 _ after (step_is.nine ∙ sym w.nine) (λ k l. same w k l (lt_or_le k (length hs)) (lt_or_le k 8)))
    where
      same : Stepped hs t x cs after → (k : ℕ) → k < length (step hs t x cs) → (k < length hs) ⊎ (length hs ≤ k) → (k < 8) ⊎ (8 ≤ k)
          → get_or (step hs t x cs) k 0 ≡ get_or after k 0
      same w k l (inl m) n = step_is.queue k m ∙ sym (w.queue k m)
      same w k l (inr m) (inl n) = step_is.past k m n ∙ sym (w.past k m n)
      same w k l (inr m) (inr n) = let e : k ≡ 8 = omega (arith, step_is.nine) in rw e (step_is.count ∙ sym w.count)

-- 01: packet n of a flow has left once its delivered count is at least n. What has left stays so, in a slot and in a list of slots.
pub left_slot : (hs : List Hop) (t x n : ℕ) (cs : List ℕ) → length cs ≡ 9 → 1 ≤ length hs → length hs ≤ 8 → HasLeft n cs → HasLeft n (step hs t x cs)
left_slot hs t x n cs nine some few l = omega (arith, (step_is hs t x cs nine some few).count)

pub left_slots : (hs : List Hop) (s : List Entry) (n : ℕ) (cs : List ℕ) → length cs ≡ 9 → 1 ≤ length hs → length hs ≤ 8 → HasLeft n cs → HasLeft n (steps hs cs s)
unfolding steps
left_slots hs [] n cs nine some few l = l
left_slots hs (e ∷ s) n cs nine some few l =
    left_slot hs e.number e.arrival n (steps hs cs s) (length_steps hs cs s ∙ nine) some few (left_slots hs s n cs nine some few l)
