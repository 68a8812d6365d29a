-- Rows by what the functions below them answer: the scale, a link's entries, and how full a bar is.
use Prim.Native.Nat.{ℕ, min, max, ◌*◌, ◌/◌, ◌%◌}
use mathlib.Core.Path.{◌≡◌}
use mathlib.Core.List.{[]}
use borrow.Author.Tests.{ne_eqb}
use Rattle.chart_rows.specs.Scale.{slot_width, number_step, middle}
use Rattle.chart_rows.specs.Rows.{number, number_if, bar_filled}

-- The number of a slot, where it has one.
pub number_here : (slots y slot : ℕ) → slot % number_step slots ≡ 0 → number_if slots y slot ≡ number (middle (slot_width slots) slot) y slot
unfolding number_if
number_here slots y slot e = rw e

pub number_none : (slots y slot : ℕ) → (slot % number_step slots ≡ 0 → ⊥) → number_if slots y slot ≡ []
unfolding number_if
number_none slots y slot e = rw (ne_eqb _ _ e)

-- How full a bar is.
pub filled_none : (load capacity : ℕ) → capacity ≡ 0 → bar_filled load capacity ≡ 80
unfolding bar_filled
filled_none load capacity e = rw e

pub filled_some : (load capacity : ℕ) → (capacity ≡ 0 → ⊥) → bar_filled load capacity ≡ min 80 (max (min load 1) (80 * load / capacity))
unfolding bar_filled
filled_some load capacity e = rw (ne_eqb _ _ e)

pub ruleset filled_rules = (filled_none, filled_some)
