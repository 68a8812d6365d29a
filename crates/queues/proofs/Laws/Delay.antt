-- Delay and backlog of one flow's queues, for any hops that serve it and for any curve below its arrivals.
use Prim.Native.Nat.{ℕ, zero, suc, ◌+◌, ◌-◌, ◌*◌, ◌≤◌, ◌<◌, min}
use mathlib.Core.Path.{◌≡◌, refl, sym, ◌∙◌}
use mathlib.Core.Bool.{Bool, true, false, cond, false≢true}
use mathlib.Core.List.{List, [], ◌∷◌}
use mathlib.Core.Logic.{◌⊎◌, inl, inr}
use lib.ListN.{length, drop}
use lib.Seq.{drop-drop, drop-nil}
use native.Mathlib.Nat.{mul-le-mul_left, add-zero, add-suc, add_assoc, zero-add}
use native.Mathlib.Omega.{arith}
use Rattle.lists.specs.Lists.{total}
use Rattle.lists.proofs.Laws.Search.{lt_or_le}
use Rattle.counters.specs.Blocks.{zeros}
use Rattle.counters.proofs.Laws.{length_zeros}
use Rattle.queues.specs.Cells.{Hop, Entry, moved, arrived, passed, step, steps, waiting, delivered, arrivals, all_but_newest, span}
use Rattle.queues.specs.Pace.{Serves, All, Rising, Within, Curve, paced}
use Rattle.queues.proofs.Laws.Cells.{final, final_rest, final_delivering, final_zeros, total_delivering, total_passed, total_arrived, total_steps}
use Rattle.queues.proofs.Laws.Cells.{total_zeros, total_parts, length_arrived, length_steps, delivered_final, waiting_arrived}

-- How many of the slots are newer than the newest in which the hop sends; all of them, where it sends in none.
unfoldable pub since : Hop → List Entry → ℕ
since h [] = 0
since h (e ∷ s) = cond (h.sends e.number) 0 (suc (since h s))

-- In the n slots up to number t the hop does not send.
pub record Silent (h : Hop) (t n : ℕ) : Type 0 where
  pub long : n ≤ t + 1
  pub none : (u : ℕ) → u ≤ t → t < u + n → h.sends u ≡ false

silent : (h : Hop) (e : Entry) (s : List Entry) → Rising (e ∷ s) → Silent h e.number (since h (e ∷ s))
unfolding since Rising
silent h e [] r = go (h.sends e.number) refl
  where
    go : (b : Bool) → h.sends e.number ≡ b → Silent h e.number (cond b 0 (suc 0))
    go true q = record { long = omega arith; none = λ u l m. absurd (omega arith) }
    go false q = record { long = omega arith; none = λ u l m. let k : u ≡ e.number = omega arith in rw k q }
silent h e (d ∷ s) r = go (h.sends e.number) refl (silent h d s r.1)
  where
    go : (b : Bool) → h.sends e.number ≡ b → Silent h d.number (since h (d ∷ s)) → Silent h e.number (cond b 0 (suc (since h (d ∷ s))))
    go true q w = record { long = omega arith; none = λ u l m. absurd (omega arith) }
    go false q w = record { long = omega (arith, w.long, r.0); none = λ u l m. at u l m (lt_or_le u e.number) }
      where
        at : (u : ℕ) → u ≤ e.number → e.number < u + suc (since h (d ∷ s)) → (u < e.number) ⊎ (e.number ≤ u) → h.sends u ≡ false
        at u l m (inl k) = w.none u (omega (arith, r.0)) (omega (arith, r.0))
        at u l m (inr k) = let j : u ≡ e.number = omega arith in rw j q

-- A hop that serves has sent in the last `gap` slots, or there are fewer of them.
since_below : (rate : ℕ) (h : Hop) (s : List Entry) → Serves rate h → Rising s → since h s < h.gap
unfolding since
since_below rate h [] v r = let w = v.often 0 in omega (arith, w.1, w.2)
since_below rate h (e ∷ s) v r = go (lt_or_le (since h (e ∷ s)) h.gap) (silent h e s r)
  where
    go : (since h (e ∷ s) < h.gap) ⊎ (h.gap ≤ since h (e ∷ s)) → Silent h e.number (since h (e ∷ s)) → since h (e ∷ s) < h.gap
    go (inl l) q = l
    go (inr l) q = at (v.often (e.number + 1 - h.gap))
      where
        at : (t : ℕ) × (e.number + 1 - h.gap ≤ t) × (t < e.number + 1 - h.gap + h.gap) × (h.sends t ≡ true) → since h (e ∷ s) < h.gap
        at (t, a, b, c) = absurd (false≢true (sym (q.none t (omega (arith, q.long)) (omega (arith, q.long))) ∙ c))

pub rising_rest : (e : Entry) (s : List Entry) → Rising (e ∷ s) → Rising s
unfolding Rising
rising_rest e [] r = tt
rising_rest e (d ∷ s) r = r.1

drop_tail : (n x : ℕ) (xs : List ℕ) → 0 < n → drop n (x ∷ xs) ≡ drop (n - 1) xs
drop_tail zero x xs l = absurd (omega arith)
drop_tail (suc n) x xs l = let e : suc n - 1 ≡ n = omega arith in rw e

-- A route that serves spans at least one slot.
pub span_some : (rate : ℕ) (hs : List Hop) → 1 ≤ length hs → All (Serves rate) hs → 1 ≤ span hs
unfolding span All
span_some rate [] some v = absurd (omega arith)
span_some rate (h ∷ hs) some v = let w = v.0.often 0 in omega (arith, w.1, w.2)

nine_cells : (hs : List Hop) (s : List Entry) → length (steps hs (zeros 9) s) ≡ 9
nine_cells hs s = length_steps hs (zeros 9) s ∙ length_zeros 9

-- All that arrived waits or is delivered.
pub arrivals_kept : (hs : List Hop) (s : List Entry) → length hs ≤ 8
    → total (arrivals s) ≡ waiting (steps hs (zeros 9) s) + delivered (steps hs (zeros 9) s)
arrivals_kept hs s few =
    omega (arith, total_parts (steps hs (zeros 9) s) (nine_cells hs s), total_steps hs (zeros 9) s (rw (length_zeros 9) (omega arith)), total_zeros 9)

module _ (rate : ℕ) (curve : List ℕ → ℕ) (c : Curve rate curve) where
  -- The curve with fewer of the newest slots left out is no lower, and n slots earlier it was lower by n times the rate at most.
  fewer : (a b : ℕ) (xs : List ℕ) → a ≤ b → curve (drop b xs) ≤ curve (drop a xs)
  fewer zero zero xs l = omega arith
  fewer zero (suc b) [] l = omega arith
  fewer zero (suc b) (x ∷ xs) l = omega (arith, fewer zero b xs (omega arith), c.rises x xs)
  fewer (suc a) zero xs l = absurd (omega arith)
  fewer (suc a) (suc b) [] l = omega arith
  fewer (suc a) (suc b) (x ∷ xs) l = fewer a b xs (omega arith)

  earlier : (n : ℕ) (xs : List ℕ) → curve xs ≤ curve (drop n xs) + rate * n
  earlier zero xs = omega arith
  earlier (suc n) [] = omega arith
  earlier (suc n) (x ∷ xs) = omega (arith, earlier n xs, c.slow x xs)

  -- What has passed a hop is the sum of the cells behind its own. With G the gaps of the hops before it, the curve of G slots before its newest sending has passed
  -- it. Behind the last hop all is in the last cell.
  unfoldable pub OnTime : ℕ → List Entry → List Hop → List ℕ → Type 0
  OnTime G s [] cs = total cs ≡ final cs
  OnTime G s (h ∷ hs) [] = ⊥
  OnTime G s (h ∷ hs) (q ∷ cs) = (curve (drop (G + since h s) (arrivals s)) ≤ total cs) × OnTime (G + h.gap) s hs cs

  -- One hop in one slot: q is its queue, p what has passed it before.
  ontime_hop : (G : ℕ) (h : Hop) (e : Entry) (s : List Entry) (q p : ℕ) → Serves rate h → since h s < h.gap
      → curve (drop G (e.arrival ∷ arrivals s)) ≤ q + p → curve (drop (G + since h s) (arrivals s)) ≤ p
      → curve (drop (G + since h (e ∷ s)) (e.arrival ∷ arrivals s)) ≤ p + moved h e.number q
  unfolding since moved
  ontime_hop G h e s q p v b come k = go (h.sends e.number)
    where
      far : curve (drop G (e.arrival ∷ arrivals s)) ≤ curve (drop (G + since h s) (arrivals s)) + rate * suc (since h s)
      far = rw (drop-drop, add-suc) at (earlier (suc (since h s)) (drop G (e.arrival ∷ arrivals s)))

      go : (t : Bool) → curve (drop (G + cond t 0 (suc (since h s))) (e.arrival ∷ arrivals s)) ≤ p + cond t (min q h.width) 0
      go true = rw add-zero (omega (arith, come, far, k, v.wide, mul-le-mul_left rate b))
      go false = rw add-suc (omega (arith, k))

  ontime_slot : (G : ℕ) (e : Entry) (s : List Entry) (hs : List Hop) (coming : ℕ) (cs : List ℕ) → length hs < length cs → All (Serves rate) hs
      → Rising s → curve (drop G (e.arrival ∷ arrivals s)) ≤ total cs → OnTime G s hs cs → OnTime G (e ∷ s) hs (passed hs e.number coming cs)
  unfolding OnTime passed since arrivals All total
  ontime_slot G e s [] coming cs l v r p k = total_delivering coming cs (omega arith) ∙ rw k (sym (final_delivering coming cs (omega arith)))
  ontime_slot G e s (h ∷ hs) coming [] l v r p k = absurd k
  ontime_slot G e s (h ∷ hs) coming (q ∷ cs) l v r p k =
      let b = since_below rate h s v.0 r in (
        rw (total_passed hs e.number (moved h e.number q) cs (omega arith)) (ontime_hop G h e s q (total cs) v.0 b p k.0),
        ontime_slot (G + h.gap) e s hs (moved h e.number q) cs (omega arith) v.1 r
            (rw (drop_tail (G + h.gap) e.arrival (arrivals s) (omega arith))
            (omega (arith, k.0, fewer (G + since h s) (G + h.gap - 1) (arrivals s) (omega arith)))) k.1,
      )

  -- The first queue plays no part in it.
  ontime_arrived : (G x : ℕ) (s : List Entry) (h : Hop) (hs : List Hop) (cs : List ℕ) → OnTime G s (h ∷ hs) cs → OnTime G s (h ∷ hs) (arrived x cs)
  unfolding OnTime arrived
  ontime_arrived G x s h hs [] k = k
  ontime_arrived G x s h hs (q ∷ cs) k = k

  ontime_start : (G : ℕ) (hs : List Hop) (n : ℕ) → length hs < n → OnTime G [] hs (zeros n)
  unfolding OnTime since arrivals total zeros
  ontime_start G [] n l = total_zeros n ∙ sym (final_zeros n)
  ontime_start G (h ∷ hs) zero l = absurd (omega arith)
  ontime_start G (h ∷ hs) (suc n) l = (rw drop-nil (omega (arith, c.none)), ontime_start (G + h.gap) hs n (omega arith))

  ontime_steps : (h : Hop) (hs : List Hop) (s : List Entry) → length (h ∷ hs) ≤ 8 → All (Serves rate) (h ∷ hs) → Rising s
      → OnTime 0 s (h ∷ hs) (steps (h ∷ hs) (zeros 9) s)
  unfolding steps step total
  ontime_steps h hs [] few v r = ontime_start 0 (h ∷ hs) 9 (omega arith)
  ontime_steps h hs (e ∷ s) few v r =
      let o = rising_rest e s r in
      let long : length (steps (h ∷ hs) (zeros 9) s) ≡ 9 = nine_cells (h ∷ hs) s in
      let more : length (arrived e.arrival (steps (h ∷ hs) (zeros 9) s)) ≡ length (steps (h ∷ hs) (zeros 9) s) = length_arrived _ _ in
      ontime_slot 0 e s (h ∷ hs) 0 (arrived e.arrival (steps (h ∷ hs) (zeros 9) s)) (omega arith) v o
      (omega (
        arith,
        c.below (e.arrival ∷ arrivals s),
        total_arrived e.arrival (steps (h ∷ hs) (zeros 9) s) (omega arith),
        total_steps (h ∷ hs) (zeros 9) s (rw (length_zeros 9) (omega arith)),
      ))
      (ontime_arrived 0 e.arrival s h hs _ (ontime_steps h hs s few v o))

  -- What passed each hop in time has passed the last one.
  ontime_end : (G : ℕ) (s : List Entry) (hs : List Hop) (cs : List ℕ) → length hs < length cs → All (Serves rate) hs → Rising s
      → curve (drop (G - 1) (arrivals s)) ≤ total cs → OnTime G s hs cs → curve (drop (G + span hs - 1) (arrivals s)) ≤ final cs
  unfolding OnTime All span
  ontime_end G s [] cs l v r p k = rw (add-zero, ← k) p
  ontime_end G s (h ∷ hs) [] l v r p k = absurd k
  ontime_end G s (h ∷ hs) (q ∷ cs) l v r p k =
      let b = since_below rate h s v.0 r in
      rw (← add_assoc, final_rest q cs (omega arith))
      (ontime_end (G + h.gap) s hs cs (omega arith) v.1 r
      (omega (arith, k.0, fewer (G + since h s) (G + h.gap - 1) (arrivals s) (omega arith))) k.1)

  -- From nine zeros, after any slots whose numbers rise by one: what the curve had come to span - 1 slots ago is delivered.
  pub delivered_by : (hs : List Hop) (s : List Entry) → 1 ≤ length hs → length hs ≤ 8 → All (Serves rate) hs → Rising s
      → curve (all_but_newest (span hs - 1) (arrivals s)) ≤ delivered (steps hs (zeros 9) s)
  delivered_by [] s some few v r = absurd (omega arith)
  delivered_by (h ∷ hs) s some few v r =
      let n = nine_cells (h ∷ hs) s in
      rw (delivered_final _ n, ← zero-add (span (h ∷ hs)))
      (ontime_end 0 s (h ∷ hs) (steps (h ∷ hs) (zeros 9) s) (omega arith) v r
      (omega (arith, c.below (arrivals s), total_steps (h ∷ hs) (zeros 9) s (rw (length_zeros 9) (omega arith)))) (ontime_steps h hs s few v r))

  -- With arrivals that are ahead of the curve by `ahead` at most: how many wait after a slot ..
  pub waiting_after : (hs : List Hop) (s : List Entry) (ahead : ℕ) → 1 ≤ length hs → length hs ≤ 8 → All (Serves rate) hs → Rising s
      → total (arrivals s) ≤ curve (arrivals s) + ahead → waiting (steps hs (zeros 9) s) ≤ rate * (span hs - 1) + ahead
  waiting_after hs s ahead some few v r a =
      omega (arith, a, arrivals_kept hs s few, delivered_by hs s some few v r, earlier (span hs - 1) (arrivals s))

  -- .. and in a slot, when its x arrivals have just joined.
  pub waiting_within : (hs : List Hop) (s : List Entry) (ahead x : ℕ) → 1 ≤ length hs → length hs ≤ 8 → All (Serves rate) hs → Rising s
      → x + total (arrivals s) ≤ curve (x ∷ arrivals s) + ahead → waiting (arrived x (steps hs (zeros 9) s)) ≤ rate * span hs + ahead
  waiting_within hs s ahead x some few v r a =
      omega (
        arith,
        a,
        arrivals_kept hs s few,
        delivered_by hs s some few v r,
        rw (drop_tail (span hs) x (arrivals s) (span_some rate hs some v)) at (earlier (span hs) (x ∷ arrivals s)),
        waiting_arrived x (steps hs (zeros 9) s) (nine_cells hs s),
      )

-- The paced part of the arrivals is such a curve.
pub paced_curve : (rate : ℕ) → Curve rate (paced rate)
unfolding paced total
paced_curve rate = record { none = refl; rises = rises; slow = λ x xs. omega arith; below = below }
  where
    below : (xs : List ℕ) → paced rate xs ≤ total xs
    below [] = omega arith
    below (x ∷ xs) = omega arith

    rises : (x : ℕ) (xs : List ℕ) → paced rate xs ≤ paced rate (x ∷ xs)
    rises x xs = omega (arith, below xs)

-- Where no slot brings more than the rate, it is all of them, whichever of the newest slots are left out.
pub paced_all : (rate n : ℕ) (s : List Entry) → Within rate s → paced rate (all_but_newest n (arrivals s)) ≡ total (all_but_newest n (arrivals s))
unfolding arrivals All paced total
paced_all rate zero [] w = refl
paced_all rate zero (e ∷ s) w = omega (arith, paced_all rate zero s w.1, w.0)
paced_all rate (suc n) [] w = refl
paced_all rate (suc n) (e ∷ s) w = paced_all rate n s w.1
