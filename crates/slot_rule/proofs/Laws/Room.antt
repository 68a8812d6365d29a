-- Where periods divide one another and their reciprocals sum to at most 1, each child finds a free offset.
use Prim.Native.Nat.{ℕ, suc, ◌+◌, ◌*◌, ◌/◌, ◌%◌, ◌≤◌, ◌<◌}
use mathlib.Core.Path.{◌≡◌, refl, sym, ap}
use mathlib.Core.Bool.{Bool, true, false, cond, not, ◌&&◌}
use mathlib.Core.List.{List, [], ◌∷◌, map, map-map}
use lib.Dec.{eqb}
use lib.ListN.{length, get_or, length-map}
use borrow.Author.Tests.{leb-true}
use native.Mathlib.Nat.{zero-add, add-zero, zero-mul, mul-zero, mul_assoc, mul-le-mul_left, lt_of_mul-lt-mul_left, lt_of_mul-lt-mul_right}
use native.Mathlib.Nat.{div-eq_of_eq-mul_left}
use native.Mathlib.Omega.{arith}
use Rattle.lists.specs.Lists.{total, largest}
use Rattle.slot_rule.specs.Rule.{period, sum, limit, fits, base, periods_of, sends, earlier, taken, free_offset}
use Rattle.slot_rule.specs.Inner.{count, Roomy}
use Rattle.lists.proofs.Laws.Lists.{Positive, get_or_map}
use Rattle.lists.proofs.Laws.Search.{first_within}
use Rattle.slot_rule.proofs.Laws.Periods.{period_least, period_divides}
use Rattle.slot_rule.proofs.Laws.Bases.{limit_largest, limit_common, sum_shares, base_fits}
use Rattle.slot_rule.proofs.Laws.Offsets.{earlier_self, earlier_le}
use Rattle.slot_rule.proofs.Laws.Counting.{sum_of, count_room, count_none, class_le, count_any, sum_of_le, sum_of_without, sum_of_scale}

-- Periods of which the smaller divides the larger, and whose shares of a common multiple sum to at most that multiple.
pub record Harmonic (ps : List ℕ) (common : ℕ) : Type 0 where
  pub positive : Positive ps
  pub divides : (k i : ℕ) → k < length ps → i < length ps → get_or ps k 0 ≤ get_or ps i 0 → get_or ps i 0 / get_or ps k 0 * get_or ps k 0 ≡ get_or ps i 0
  pub above : 1 ≤ common
  pub multiple : (k : ℕ) → k < length ps → common / get_or ps k 0 * get_or ps k 0 ≡ common
  pub shares : total (map (λ p. common / p) ps) ≤ common

-- The sum over a list as a sum over indices, for a list that stands in another from index k on.
total_sum_of : (g : ℕ → ℕ) (all xs : List ℕ) (k : ℕ) → ((m : ℕ) → get_or all (k + m) 0 ≡ get_or xs m 0)
    → total (map g xs) ≡ sum_of (λ m. g (get_or all m 0)) (length xs) k
unfolding total sum_of
total_sum_of g all [] k at = refl
total_sum_of g all (x ∷ xs) k at = rw (total_sum_of g all xs (k + 1) next, head)
  where
    head : get_or all k 0 ≡ x
    head = rw add-zero at (at 0)

    next : (m : ℕ) → get_or all (k + 1 + m) 0 ≡ get_or xs m 0
    next m = let e : k + 1 + m ≡ k + suc m = omega arith in rw e (at (suc m))

module _ (ps : List ℕ) (common : ℕ) (h : Harmonic ps common) (os : List ℕ) (i : ℕ) (reach : i < length ps) where
  abbrev p : ℕ
  p = get_or ps i 0

  -- Child k's share of the common multiple, and the same where k goes before i.
  abbrev share : ℕ → ℕ
  share k = common / get_or ps k 0

  abbrev before : ℕ → ℕ
  before k = cond (earlier ps p i k) (share k) 0

  -- The offsets below p that child k takes from child i.
  abbrev takes : ℕ → ℕ
  takes k = count (λ o. earlier ps p i k && sends (get_or ps k 0) (get_or os k 0) o) p

  -- Where k goes before i, its share is i's share times p / period of k, and it takes at most that quotient.
  takes_le : (k : ℕ) → k < length ps → share i * takes k ≤ before k
  unfolding sends
  takes_le k l = go (earlier ps p i k) refl
    where
      go : (t : Bool) → earlier ps p i k ≡ t → share i * count (λ o. t && eqb (o % get_or ps k 0) (get_or os k 0)) p ≤ cond t (share k) 0
      go true e =
          let d : p / get_or ps k 0 * get_or ps k 0 ≡ p = h.divides k i l reach (earlier_le ps p i k e) in
          let same : share k ≡ share i * (p / get_or ps k 0) = div-eq_of_eq-mul_left (h.positive k l) (rw (mul_assoc, d) (sym (h.multiple i reach))) in
          rw same (mul-le-mul_left (share i) (class_le (get_or ps k 0) (get_or os k 0) p d))
      go false e = rw (count_none p, mul-zero) (omega arith)

  -- i's share times one more than the taken offsets is at most the sum of all shares, so at most the common multiple, i's share times p.
  taken_lt : count (taken ps os p i) p < p
  unfolding taken
  taken_lt = lt_of_mul-lt-mul_left (share i) (omega (arith, h.multiple i reach, some, weighed, each, rest, all))
    where
      some : 0 < share i
      some = lt_of_mul-lt-mul_right p (rw (zero-mul, h.multiple i reach) h.above)

      weighed : share i * count (taken ps os p i) p ≤ sum_of (λ k. share i * takes k) (length ps) 0
      weighed = rw (sum_of_scale (share i) takes (length ps) 0)
          (mul-le-mul_left (share i) (count_any (λ o k. earlier ps p i k && sends (get_or ps k 0) (get_or os k 0) o) (length ps) 0 p))

      each : sum_of (λ k. share i * takes k) (length ps) 0 ≤ sum_of before (length ps) 0
      each = sum_of_le (λ k. share i * takes k) before (length ps) 0 (λ k lo hi. takes_le k (omega arith))

      rest : sum_of before (length ps) 0 + share i ≤ sum_of share (length ps) 0
      rest = sum_of_without (earlier ps p i) share (length ps) 0 i (omega arith) (omega arith) (earlier_self ps i)

      all : sum_of share (length ps) 0 ≤ common
      all = rw (total_sum_of (λ q. common / q) ps ps 0 (λ m. rw zero-add)) at h.shares

  -- So one offset below p is not taken, and the search stops at it or before.
  free_lt : free_offset ps os p i < p
  unfolding free_offset
  free_lt = go (count_room (taken ps os p i) p taken_lt)
    where
      go : (o : ℕ) × (o < p) × (taken ps os p i o ≡ false) → free_offset ps os p i < p
      go (o, l, e) = omega (arith, first_within (λ m. not (taken ps os p i m)) p 0 o (omega arith) (ap not e))

harmonic_room : (ps : List ℕ) (common : ℕ) → Harmonic ps common → Roomy ps
harmonic_room ps common h = record { room = free_lt ps common h }

-- The periods under a fitting base are such periods, with the limit of rule 3 as their common multiple.
module _ (f : ℕ) (two : 2 ≤ f) (gaps : List ℕ) (h : 1 ≤ base f gaps) where
  pub periods_long : length (periods_of f gaps) ≡ length gaps
  unfolding periods_of
  periods_long = length-map gaps (period f (base f gaps))

  pub period_at : (i : ℕ) → i < length (periods_of f gaps) → get_or (periods_of f gaps) i 0 ≡ period f (base f gaps) (get_or gaps i 0)
  unfolding periods_of
  period_at i l = get_or_map 0 0 (period f (base f gaps)) gaps i (rw periods_long at l)

  shares_sum : total (map (λ p. limit f (base f gaps) gaps / p) (periods_of f gaps)) ≡ sum f (base f gaps) gaps
  unfolding periods_of
  shares_sum = rw map-map (sym (sum_shares f two (base f gaps) gaps h))

  shares_fit : sum f (base f gaps) gaps ≤ limit f (base f gaps) gaps
  unfolding fits
  shares_fit = leb-true _ _ (base_fits f two gaps h).2

  pub base_harmonic : Harmonic (periods_of f gaps) (limit f (base f gaps) gaps)
  base_harmonic = record {
    positive = λ k l. rw (period_at k l) (omega (arith, period_least f two (base f gaps) (get_or gaps k 0)));
    divides = λ k i l m. rw (period_at k l, period_at i m) (period_divides f two (base f gaps) (get_or gaps k 0) (get_or gaps i 0) h);
    above = rw (limit_largest f two (base f gaps) gaps h) (omega (arith, period_least f two (base f gaps) (largest gaps)));
    multiple = λ k l. rw (period_at k l) (limit_common f two (base f gaps) gaps k h (rw periods_long at l));
    shares = rw shares_sum shares_fit;
  }

  pub base_roomy : Roomy (periods_of f gaps)
  base_roomy = harmonic_room (periods_of f gaps) (limit f (base f gaps) gaps) base_harmonic
