-- Bounds of the scale, so that no place in a picture is too large a number.
use Prim.Native.Nat.{ℕ, ◌*◌, ◌≤◌}
use mathlib.Core.Path.{◌≡◌}
use mathlib.Core.Bool.{Bool, true, false, cond}
use lib.Dec.{leb}
use native.Mathlib.Nat.{mul-le-mul, mul-le-mul_right}
use native.Mathlib.Omega.{arith}
use Rattle.chart_rows.specs.Scale.{slots_shown, slot_width, number_step, spacing}

pub width_some : (slots : ℕ) → 1 ≤ slot_width slots
unfolding slot_width
width_some slots = go (leb slots 36) (leb slots 64)
  where
    go : (few some : Bool) → 1 ≤ cond few 28 (cond some 16 8)
    go true some = omega arith
    go false true = omega arith
    go false false = omega arith

pub width_most : (slots : ℕ) → slot_width slots ≤ 28
unfolding slot_width
width_most slots = go (leb slots 36) (leb slots 64)
  where
    go : (few some : Bool) → cond few 28 (cond some 16 8) ≤ 28
    go true some = omega arith
    go false true = omega arith
    go false false = omega arith

pub step_some : (slots : ℕ) → 1 ≤ number_step slots
unfolding number_step
step_some slots = go (leb slots 36) (leb slots 64)
  where
    go : (few some : Bool) → 1 ≤ cond few 1 (cond some 2 4)
    go true some = omega arith
    go false true = omega arith
    go false false = omega arith

pub step_most : (slots : ℕ) → number_step slots ≤ 4
unfolding number_step
step_most slots = go (leb slots 36) (leb slots 64)
  where
    go : (few some : Bool) → cond few 1 (cond some 2 4) ≤ 4
    go true some = omega arith
    go false true = omega arith
    go false false = omega arith

-- A slot lies at most 28 pixels right of the one before it.
pub place_most : (width slot : ℕ) → width ≤ 28 → width * slot ≤ 28 * slot
place_most width slot l = mul-le-mul_right slot l

pub span_most : (slots : ℕ) → slot_width slots * slots_shown slots ≤ 3584
unfolding slots_shown
span_most slots = mul-le-mul {n₂ = 28} {m₂ = 128} (width_most slots) (omega arith)

pub spacing_most : (slots : ℕ) → slot_width slots * number_step slots ≤ 112
spacing_most slots = mul-le-mul {n₂ = 28} {m₂ = 4} (width_most slots) (step_most slots)

pub ruleset scale_rules = (width_some, width_most, step_some, step_most, span_most, spacing_most)

pub spacing_some : (slots apart : ℕ) → apart ≡ spacing slots → 1 ≤ apart
unfolding spacing
spacing_some slots apart e = rw e (mul-le-mul {n₁ = 1} {m₁ = 1} (width_some slots) (step_some slots))
