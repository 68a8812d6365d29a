-- 02, U1, check 14 of a schedule that is handed in, as tests on its entries: whether some file reads to it. That these tests say just this is the law
-- `schedule_passes_when` of crate `plan`.
use Rattle.std.specs.Prelude.{ℕ, ◌-◌, Bool, not, ◌&&◌, List, eqb, leb, length, get_or}
use Rattle.lists.specs.Search.{any}
use Rattle.schedule_check.specs.declared.Schedule.{Schedule}
use Rattle.schedule_check.specs.Schedules.{bad_slots}

-- An offset and a period are not both 0.
unfoldable pub in_use : ℕ → ℕ → Bool
in_use offset period = not (eqb offset 0 && eqb period 0)

-- The two tests at index i of such lists.
abbrev pub bad_at : List ℕ → List ℕ → ℕ → Bool
bad_at offsets periods i = bad_slots (get_or offsets i 0) (get_or periods i 0)

abbrev pub used_at : List ℕ → List ℕ → ℕ → Bool
used_at offsets periods i = in_use (get_or offsets i 0) (get_or periods i 0)

-- 02, 14 lets the schedule pass: both lists have 63 entries, there are 63 links at most, each has its slots within the limits, and all behind the last is 0.
unfoldable pub schedule_passes : Schedule → Bool
schedule_passes s =
    eqb (length s.offsets) 63 && (eqb (length s.periods) 63 && (leb s.links 63
    && (not (any (bad_at s.offsets s.periods) s.links 0) && not (any (used_at s.offsets s.periods) (63 - s.links) s.links))))
