-- How many slots of a frame a picture shows, and how wide they are in pixels.
use Rattle.std.specs.Prelude.{ℕ, min, ◌+◌, ◌*◌, ◌/◌, cond, leb}

-- At most 128 slots are shown.
unfoldable pub slots_shown : ℕ → ℕ
slots_shown slots = min slots 128

-- Few slots are drawn wide, many narrow, so that all of them fit.
unfoldable pub slot_width : ℕ → ℕ
slot_width slots = cond (leb slots 36) 28 (cond (leb slots 64) 16 8)

-- Every so many slots one has its number, since a number of three digits takes almost 28 pixels.
unfoldable pub number_step : ℕ → ℕ
number_step slots = cond (leb slots 36) 1 (cond (leb slots 64) 2 4)

-- How far two numbers are apart.
unfoldable pub spacing : ℕ → ℕ
spacing slots = slot_width slots * number_step slots

-- All slots that are shown, side by side.
unfoldable pub slots_span : ℕ → ℕ
slots_span slots = slot_width slots * slots_shown slots

-- The middle of a slot; slots begin 424 from the left.
unfoldable pub middle : ℕ → ℕ → ℕ
middle width slot = 424 + width / 2 + width * slot
