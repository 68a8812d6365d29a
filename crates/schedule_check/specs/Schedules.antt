-- 02, U1: schedules by value, and when the slots of a link are outside their limits.
use Rattle.std.specs.Prelude.{ℕ, Bool, ◌||◌, List, ltb, leb, replicate}
use Rattle.schedule_check.specs.declared.Schedule.{Schedule}

-- The schedule of so many links with these offsets and periods.
abbrev pub of_lists : ℕ → List ℕ → List ℕ → Schedule
of_lists links offsets periods = record { links = links; offsets = offsets; periods = periods }

-- The schedule without links: every entry is 0.
abbrev pub without_links : Schedule
without_links = of_lists 0 (replicate 63 0) (replicate 63 0)

-- 02, 22: a period of 0 or above 1,024, or an offset that is not below it.
unfoldable pub bad_slots : ℕ → ℕ → Bool
bad_slots offset period = ltb period 1 || (ltb 1024 period || leb period offset)
