-- Sums, limits and bases of a list of gaps, for every factor from 2 up.
use Prim.Native.Nat.{ℕ, zero, suc, ◌*◌, ◌-◌, ◌^◌, ◌≤◌, ◌<◌, ◌/◌, min, max}
use mathlib.Core.Path.{◌≡◌, refl, sym, ◌∙◌, ap}
use mathlib.Core.Bool.{true, false, false≢true}
use mathlib.Core.List.{List, [], ◌∷◌, map, map-map}
use mathlib.Core.Logic.{◌⊎◌, inl, inr, ◌↔◌}
use lib.ListN.{length, get_or}
use native.Mathlib.Nat.{pow-zero, pow-suc, mul-one, one-mul, mul-le-mul_left, div-eq_of_eq-mul_left, mul-div-mul_left, div-lt_iff_lt-mul, min-le_left, min-le_right}
use native.Mathlib.Nat.{min-eq_left, min-eq_right, le-max_left, le-max_right, max-eq_left, max-eq_right}
use native.Mathlib.Omega.{arith}
use Rattle.lists.specs.Search.{last}
use Rattle.lists.specs.Lists.{total, largest, least, smallest}
use Rattle.slot_rule.specs.Rule.{exponent, period, greatest, sum, limit, fits, base}
use Rattle.slot_rule.specs.Words.{LargestFit, NoneFits}
use Rattle.lists.proofs.Laws.Search.{last_is, lt_or_le, last_le, last_passes, last_above}
use Rattle.slot_rule.proofs.Laws.Periods.{below_multiple, exponent_is, exponent_mono, period_mono, period_divides, period_up, power_split}

-- The smallest of x and a list is at most each of them, and one of them.
least_within : (x : ℕ) (xs : List ℕ) (i : ℕ) → i < suc (length xs) → least x xs ≤ get_or (x ∷ xs) i 0
unfolding least
least_within x [] zero l = omega arith
least_within x [] (suc i) l = absurd (omega arith)
least_within x (y ∷ ys) zero l = omega (arith, least_within (min x y) ys zero (omega arith), min-le_left x y)
least_within x (y ∷ ys) (suc zero) l = omega (arith, least_within (min x y) ys zero (omega arith), min-le_right x y)
least_within x (y ∷ ys) (suc (suc i)) l = least_within (min x y) ys (suc i) (omega arith)

least_met : (x : ℕ) (xs : List ℕ) → (i : ℕ) × (i < suc (length xs)) × (get_or (x ∷ xs) i 0 ≡ least x xs)
unfolding least
least_met x [] = (0, omega arith, refl)
least_met x (y ∷ ys) = go (least_met (min x y) ys) (lt_or_le x y)
  where
    go : (i : ℕ) × (i < suc (length ys)) × (get_or (min x y ∷ ys) i 0 ≡ least (min x y) ys) → (x < y) ⊎ (y ≤ x)
        → (i : ℕ) × (i < suc (suc (length ys))) × (get_or (x ∷ y ∷ ys) i 0 ≡ least (min x y) ys)
    go (zero, l, e) (inl m) = (0, omega arith, sym (min-eq_left (omega arith)) ∙ e)
    go (zero, l, e) (inr m) = (1, omega arith, sym (min-eq_right m) ∙ e)
    go (suc i, l, e) w = (suc (suc i), omega arith, e)

-- The smallest number of a list is one of them, and at most each.
pub smallest_within : (xs : List ℕ) (i : ℕ) → i < length xs → smallest xs ≤ get_or xs i 0
unfolding smallest
smallest_within [] i l = absurd (omega arith)
smallest_within (x ∷ xs) i l = least_within x xs i l

pub smallest_met : (xs : List ℕ) → 1 ≤ length xs → (i : ℕ) × (i < length xs) × (get_or xs i 0 ≡ smallest xs)
unfolding smallest
smallest_met [] l = absurd (omega arith)
smallest_met (x ∷ xs) l = least_met x xs

-- The largest number is at least each.
pub largest_above : (xs : List ℕ) (i : ℕ) → i < length xs → get_or xs i 0 ≤ largest xs
unfolding largest
largest_above [] i l = absurd (omega arith)
largest_above (x ∷ xs) zero l = le-max_left x (largest xs)
largest_above (x ∷ xs) (suc i) l = omega (arith, largest_above xs i (omega arith), le-max_right x (largest xs))

smallest_largest : (xs : List ℕ) → smallest xs ≤ largest xs
unfolding smallest largest
smallest_largest [] = omega arith
smallest_largest (x ∷ xs) = omega (arith, least_within x xs 0 (omega arith), le-max_left x (largest xs))

-- Two maps that agree on every entry of a list agree on the list.
map_agrees : (h k : ℕ → ℕ) (xs : List ℕ) → ((i : ℕ) → i < length xs → h (get_or xs i 0) ≡ k (get_or xs i 0)) → map h xs ≡ map k xs
map_agrees h k [] e = refl
map_agrees h k (x ∷ xs) e = rw (e 0 (omega arith), map_agrees h k xs (λ i l. e (suc i) (omega arith)))

-- The search going down: no base above b, up to the smallest gap, fits.
pub record Tried (f : ℕ) (gaps : List ℕ) (b : ℕ) : Type 0 where
  pub within : b ≤ smallest gaps
  pub none : (k : ℕ) → b < k → k ≤ smallest gaps → fits f k gaps ≡ false

module _ (f : ℕ) (two : 2 ≤ f) where
  -- A quotient of two multiples of the base is a power of the factor.
  pub share : (b J j : ℕ) → 1 ≤ b → j ≤ J → b * f ^ J / (b * f ^ j) ≡ f ^ (J - j)
  share b J j one l = div-eq_of_eq-mul_left (omega (arith, below_multiple f two b j one)) (power_split f two b j J l)

  -- The exponent rises with the gap, so the larger of two exponents is the larger gap's.
  exponent_max : (b g h : ℕ) → 1 ≤ b → max (exponent f b g) (exponent f b h) ≡ exponent f b (max g h)
  exponent_max b g h one = go (lt_or_le g h)
    where
      go : (g < h) ⊎ (h ≤ g) → max (exponent f b g) (exponent f b h) ≡ exponent f b (max g h)
      go (inl l) = rw (max-eq_right {n = g} {m = h} (omega arith)) (max-eq_right (exponent_mono f two b g h one (omega arith)))
      go (inr l) = rw (max-eq_left l) (max-eq_left (exponent_mono f two b h g one l))

  -- J belongs to the largest gap, whose period is the limit.
  greatest_largest : (b : ℕ) (gaps : List ℕ) → 1 ≤ b → greatest f b gaps ≡ exponent f b (largest gaps)
  unfolding largest exponent last
  greatest_largest b [] one = refl
  greatest_largest b (g ∷ gaps) one = rw (greatest_largest b gaps one) (exponent_max b g (largest gaps) one)

  pub limit_largest : (b : ℕ) (gaps : List ℕ) → 1 ≤ b → limit f b gaps ≡ period f b (largest gaps)
  unfolding limit period
  limit_largest b gaps one = rw (greatest_largest b gaps one)

  -- The limit is a common multiple of the periods.
  pub limit_common : (b : ℕ) (gaps : List ℕ) (i : ℕ) → 1 ≤ b → i < length gaps
      → limit f b gaps / period f b (get_or gaps i 0) * period f b (get_or gaps i 0) ≡ limit f b gaps
  limit_common b gaps i one l = rw (limit_largest b gaps one)
      (period_divides f two b (get_or gaps i 0) (largest gaps) one (period_mono f two b (get_or gaps i 0) (largest gaps) one (largest_above gaps i l)))

  -- The sum counts, for each child, how often it sends in `limit` slots.
  pub sum_shares : (b : ℕ) (gaps : List ℕ) → 1 ≤ b → sum f b gaps ≡ total (map (λ g. limit f b gaps / period f b g) gaps)
  unfolding sum limit period
  sum_shares b gaps one =
      rw map-map (ap total (map_agrees _ _ gaps (λ i l. sym (share b (greatest f b gaps) (exponent f b (get_or gaps i 0)) one (below i l)))))
    where
      below : (i : ℕ) → i < length gaps → exponent f b (get_or gaps i 0) ≤ greatest f b gaps
      below i l = rw (greatest_largest b gaps one) (exponent_mono f two b (get_or gaps i 0) (largest gaps) one (largest_above gaps i l))

  -- The sum as a loop over the gaps makes it, from the power of the largest gap.
  pub sum_powers : (b : ℕ) (gaps : List ℕ) (whole n : ℕ) → 1 ≤ b → whole ≡ f ^ exponent f b (largest gaps)
      → n ≡ total (map (λ g. whole / f ^ exponent f b g) gaps) → n ≡ sum f b gaps
  unfolding limit period
  sum_powers b gaps whole n one e q = rw (q, e, sum_shares b gaps one, greatest_largest b gaps one)
      (ap total (map_agrees _ _ gaps (λ i l. sym (mul-div-mul_left _ _ one))))

  -- A base that can be multiplied within every gap fits just when its multiple does.
  fits_up : (b : ℕ) (gaps : List ℕ) → 1 ≤ b → b * f ≤ smallest gaps → fits f b gaps ≡ fits f (b * f) gaps
  unfolding fits
  fits_up b gaps one h = rw (sum_shares b gaps one, sum_shares (b * f) gaps pos, limits, shares)
    where
      pos : 1 ≤ b * f
      pos = omega (arith, mul-le-mul_left b two)

      limits : limit f b gaps ≡ limit f (b * f) gaps
      limits = rw (limit_largest b gaps one, limit_largest (b * f) gaps pos)
          (sym (period_up f two b (largest gaps) one (omega (arith, smallest_largest gaps))))

      shares : map (λ g. limit f (b * f) gaps / period f b g) gaps ≡ map (λ g. limit f (b * f) gaps / period f (b * f) g) gaps
      shares = map_agrees _ _ gaps (λ i l. rw (period_up f two b (get_or gaps i 0) one (omega (arith, smallest_within gaps i l))))

  -- The base fits, and no larger one up to the smallest gap does; it is 0 just when no base from 1 to the smallest gap fits.
  pub base_fits : (gaps : List ℕ) → 1 ≤ base f gaps → LargestFit f gaps (base f gaps)
  unfolding base
  base_fits gaps h = (
    h,
    last_le (λ b. fits f b gaps) (smallest gaps),
    last_passes (λ b. fits f b gaps) (smallest gaps) h,
    last_above (λ b. fits f b gaps) (smallest gaps),
  )

  -- What is found fits, so a base that does not was not found.
  unfit : (gaps : List ℕ) → (1 ≤ base f gaps → fits f (base f gaps) gaps ≡ false) → base f gaps ≡ 0
  unfit gaps e = elim (lt_or_le 0 (base f gaps)) [ inl l ↦ absurd (false≢true (sym (e l) ∙ (base_fits gaps l).2)) | inr m ↦ omega arith ]

  pub base_none : (gaps : List ℕ) → (base f gaps ≡ 0) ↔ NoneFits f gaps
  unfolding base
  base_none gaps =
      (λ z b lo hi. last_above (λ b. fits f b gaps) (smallest gaps) b (omega arith) hi, λ none. unfit gaps (λ l. none (base f gaps) l (base_fits gaps l).1))

  -- A base that could be multiplied within the smallest gap would not be the largest that fits.
  base_top : (gaps : List ℕ) → 1 ≤ base f gaps → smallest gaps < base f gaps * f
  base_top gaps h = go (lt_or_le (smallest gaps) (base f gaps * f))
    where
      go : (smallest gaps < base f gaps * f) ⊎ (base f gaps * f ≤ smallest gaps) → smallest gaps < base f gaps * f
      go (inl l) = l
      go (inr m) = absurd (false≢true (sym ((base_fits gaps h).3 (base f gaps * f) (omega (arith, mul-le-mul_left (base f gaps) two)) m)
          ∙ sym (fits_up (base f gaps) gaps h m) ∙ (base_fits gaps h).2))

  -- So the smallest gap has the base itself for its period.
  pub base_period : (gaps : List ℕ) → 1 ≤ base f gaps → period f (base f gaps) (smallest gaps) ≡ base f gaps
  unfolding period
  base_period gaps h = rw (none, pow-zero, mul-one)
    where
      none : exponent f (base f gaps) (smallest gaps) ≡ 0
      none = exponent_is f two (base f gaps) (smallest gaps) 0 h (rw (pow-zero, mul-one) (base_fits gaps h).1) (rw (pow-suc, pow-zero, one-mul) (base_top gaps h))

  -- Where no base above the smallest gap / factor fits, none fits: each other one gives the periods of a larger one.
  pub none_below : (gaps : List ℕ) → ((b : ℕ) → smallest gaps / f < b → b ≤ smallest gaps → fits f b gaps ≡ false) → base f gaps ≡ 0
  none_below gaps none = unfit gaps (λ l. none (base f gaps) ((div-lt_iff_lt-mul (omega arith)).1 (base_top gaps l)) (base_fits gaps l).1)

  -- The search: where it starts, a base that does not fit, one that does, and where it may end.
  pub tried_start : (gaps : List ℕ) (b : ℕ) → b ≡ smallest gaps → Tried f gaps b
  tried_start gaps b e = record { within = omega arith; none = λ k l h. absurd (omega arith) }

  pub tried_less : (gaps : List ℕ) (b : ℕ) → Tried f gaps b → fits f b gaps ≡ false → Tried f gaps (b - 1)
  tried_less gaps b t e = record { within = omega (arith, t.within); none = λ k l h. go k h (lt_or_le b k) l }
    where
      go : (k : ℕ) → k ≤ smallest gaps → (b < k) ⊎ (k ≤ b) → b - 1 < k → fits f k gaps ≡ false
      go k h (inl m) l = t.none k m h
      go k h (inr m) l = let q : k ≡ b = omega arith in rw q e

  pub tried_hit : (gaps : List ℕ) (b : ℕ) → Tried f gaps b → fits f b gaps ≡ true → b ≡ base f gaps
  unfolding base
  tried_hit gaps b t e = sym (last_is (λ b. fits f b gaps) (smallest gaps) b t.within e t.none)

  pub tried_end : (gaps : List ℕ) (b s : ℕ) → Tried f gaps b → s ≡ smallest gaps → b ≤ s / f → 0 ≡ base f gaps
  tried_end gaps b s t e h = sym (none_below gaps (λ k l m. t.none k (let q = rw e at h in omega arith) m))
