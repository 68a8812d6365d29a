-- Exponents and periods of a gap under a base, for every factor from 2 up.
use Prim.Native.Nat.{ℕ, zero, suc, ◌+◌, ◌*◌, ◌-◌, ◌^◌, ◌≤◌, ◌<◌, ◌/◌}
use mathlib.Core.Path.{◌≡◌, sym, ◌∙◌, ap}
use mathlib.Core.Logic.{inl, inr}
use lib.Dec.{leb}
use lib.Pow.{pow-add}
use borrow.Author.Tests.{le-leb, lt-leb, leb-true}
use native.Mathlib.Nat.{pow-zero, pow-suc, pow-succ', one-le-pow, pow-le-pow_right, mul-one, mul_assoc, mul_left_comm, mul-le-mul_left, mul-le-mul_right}
use native.Mathlib.Nat.{mul-lt-mul_of_pos_left, le-mul_of_pos_right, div-eq_of_eq-mul_left, le-div_iff_mul-le, div-lt_iff_lt-mul}
use native.Mathlib.Omega.{arith}
use Rattle.slot_rule.specs.Rule.{exponent, period}
use Rattle.lists.proofs.Laws.Search.{lt_or_le, last_passes, last_max, last_is}

module _ (f : ℕ) (two : 2 ≤ f) where
  -- j is below f^j, so an exponent is at most its gap.
  below_power : (j : ℕ) → j < f ^ j
  below_power zero = rw pow-zero (omega arith)
  below_power (suc j) = omega (arith, below_power j, mul-le-mul_right (f ^ j) two, pow-succ' f j)

  pub below_multiple : (b j : ℕ) → 1 ≤ b → j < b * f ^ j
  below_multiple b j one = omega (arith, below_power j, mul-le-mul_right (f ^ j) one)

  pub powers : (i j : ℕ) → i ≤ j → f ^ i ≤ f ^ j
  powers i j l = pow-le-pow_right (omega arith) l

  -- A larger exponent gives a larger multiple of the base.
  power_strict : (b i j : ℕ) → 1 ≤ b → i < j → b * f ^ i < b * f ^ j
  power_strict b i j one l =
      mul-lt-mul_of_pos_left (omega (arith, below_power i, mul-le-mul_right (f ^ i) two, pow-succ' f i, powers (suc i) j l)) one

  -- Every exponent whose multiple stays within the gap is at most the gap's.
  pub exponent_most : (b g j : ℕ) → 1 ≤ b → b * f ^ j ≤ g → j ≤ exponent f b g
  unfolding exponent
  exponent_most b g j one h = last_max (λ j. leb (b * f ^ j) g) g j (omega (arith, below_multiple b j one)) (le-leb _ _ h)

  -- The exponent is the one at which the next multiple leaves the gap.
  pub exponent_is : (b g j : ℕ) → 1 ≤ b → b * f ^ j ≤ g → g < b * f ^ suc j → exponent f b g ≡ j
  unfolding exponent
  exponent_is b g j one h l = last_is (λ j. leb (b * f ^ j) g) g j (omega (arith, below_multiple b j one)) (le-leb _ _ h)
      (λ m lo hi. lt-leb (b * f ^ m) g (omega (arith, mul-le-mul_left b (powers (suc j) m lo))))

  -- An exponent above 0 was found, so it passes; 0 is also the answer of a search that found none.
  reached : (b g : ℕ) → 0 < exponent f b g → period f b g ≤ g
  unfolding exponent period
  reached b g l = leb-true _ _ (last_passes (λ j. leb (b * f ^ j) g) g l)

  pub period_within : (b g : ℕ) → b ≤ g → period f b g ≤ g
  unfolding period
  period_within b g h =
      elim (lt_or_le 0 (exponent f b g)) [ inl l ↦ reached b g l | inr m ↦ let z : exponent f b g ≡ 0 = omega arith in rw (z, pow-zero, mul-one) h ]

  exponent_next : (b g : ℕ) → 1 ≤ b → g < b * f ^ suc (exponent f b g)
  exponent_next b g one =
      elim (lt_or_le g (b * f ^ suc (exponent f b g))) [ inl l ↦ l | inr m ↦ absurd (omega (arith, exponent_most b g (suc (exponent f b g)) one m)) ]

  pub exponent_mono : (b g h : ℕ) → 1 ≤ b → g ≤ h → exponent f b g ≤ exponent f b h
  unfolding period
  exponent_mono b g h one l =
      elim (lt_or_le 0 (exponent f b g)) [ inl p ↦ exponent_most b h (exponent f b g) one (omega (arith, reached b g p)) | inr m ↦ omega arith ]

  pub period_mono : (b g h : ℕ) → 1 ≤ b → g ≤ h → period f b g ≤ period f b h
  unfolding period
  period_mono b g h one l = mul-le-mul_left b (powers (exponent f b g) (exponent f b h) (exponent_mono b g h one l))

  pub period_least : (b g : ℕ) → b ≤ period f b g
  unfolding period
  period_least b g = le-mul_of_pos_right b (one-le-pow (exponent f b g) f (omega arith))

  -- A multiple with a larger exponent is a whole number of those with a smaller.
  pub power_split : (b i j : ℕ) → i ≤ j → b * f ^ j ≡ f ^ (j - i) * (b * f ^ i)
  power_split b i j l = let e : j ≡ j - i + i = omega arith in ap (λ (n : ℕ). b * f ^ n) e ∙ simp (pow-add, mul_left_comm)

  -- Of two periods under one base the smaller divides the larger.
  pub period_divides : (b g h : ℕ) → 1 ≤ b → period f b g ≤ period f b h → period f b h / period f b g * period f b g ≡ period f b h
  unfolding period
  period_divides b g h one l = rw (div-eq_of_eq-mul_left (omega (arith, period_least b g)) split) (sym split)
    where
      le : exponent f b g ≤ exponent f b h
      le = elim (lt_or_le (exponent f b h) (exponent f b g))
          [ inl m ↦ absurd (omega (arith, power_strict b (exponent f b h) (exponent f b g) one m)) | inr m ↦ m ]

      split : b * f ^ exponent f b h ≡ f ^ (exponent f b h - exponent f b g) * (b * f ^ exponent f b g)
      split = power_split b (exponent f b g) (exponent f b h) le

  next : (b j : ℕ) → b * f ^ suc j ≡ b * f * f ^ j
  next b j = simp (pow-succ', mul_assoc)

  -- A base that can be multiplied within the gap has the exponents one higher, and the same period.
  exponent_up : (b g : ℕ) → 1 ≤ b → b * f ≤ g → exponent f b g ≡ suc (exponent f (b * f) g)
  unfolding period
  exponent_up b g one h =
      exponent_is b g (suc e) one (omega (arith, next b e, period_within (b * f) g h)) (omega (arith, next b (suc e), exponent_next (b * f) g pos))
    where
      e : ℕ
      e = exponent f (b * f) g

      pos : 1 ≤ b * f
      pos = omega (arith, mul-le-mul_left b two)

  pub period_up : (b g : ℕ) → 1 ≤ b → b * f ≤ g → period f (b * f) g ≡ period f b g
  unfolding period
  period_up b g one h = rw (exponent_up b g one h, next b (exponent f (b * f) g))

-- A number that a loop for a period reaches: the base times a power of the factor, within the gap. Beside it stands what `h` says of the exponent.
pub record Grown (h : ℕ → ℕ) (f b g p x : ℕ) : Type 0 where
  pub exponent : ℕ
  pub power : p ≡ b * f ^ exponent
  pub some : 1 ≤ p
  pub within : p ≤ g
  pub beside : x ≡ h exponent

module _ (h : ℕ → ℕ) (f b g : ℕ) where
  pub grown_start : (x : ℕ) → 1 ≤ b → b ≤ g → x ≡ h 0 → Grown h f b g b x
  grown_start x one l e = record { exponent = 0; power = rw (pow-zero, mul-one); some = one; within = l; beside = e }

  module _ (two : 2 ≤ f) (p x : ℕ) (w : Grown h f b g p x) where
    -- A turn at least doubles it, and the product is still within the gap.
    pub grown_turn : p ≤ g / f → (p < p * f) × (p * f ≤ g)
    grown_turn l = let pos : 0 < f = omega arith in (omega (arith, mul-le-mul_left p two, w.some), (le-div_iff_mul-le pos).0 l)

    pub grown_more : (y : ℕ) → p ≤ g / f → ((e : ℕ) → x ≡ h e → y ≡ h (suc e)) → Grown h f b g (p * f) y
    grown_more y l step = record {
      exponent = suc w.exponent;
      power = rw w.power (simp (pow-suc, mul_assoc));
      some = omega (arith, (grown_turn l).0, w.some);
      within = (grown_turn l).1;
      beside = step w.exponent w.beside;
    }

    pub grown_end : 1 ≤ b → g / f < p → (p ≡ period f b g) × (x ≡ h (exponent f b g))
    unfolding period
    grown_end one l =
        let pos : 0 < f = omega arith in
        let above : g < p * f = (div-lt_iff_lt-mul pos).0 l in
        let is = exponent_is f two b g w.exponent one (rw w.power at w.within) (rw (pow-suc, ← mul_assoc, ← w.power) above) in
        (w.power ∙ rw is, w.beside ∙ rw is)
