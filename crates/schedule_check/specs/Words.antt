-- Schedules in words of 'for all' and 'exists'. The laws of proofs/Laws.antt say that the definitions mean this.
use Rattle.std.specs.Prelude.{ℕ, ◌≤◌, ◌<◌, ◌≡◌, length, get_or}
use Rattle.schedule_check.specs.declared.Schedule.{Schedule}

-- 02, 22: the period is from 1 to 1,024, and the offset is below it.
pub record SlotsWithin (offset period : ℕ) : Type 0 where
  pub period_some : 1 ≤ period
  pub period_most : period ≤ 1024
  pub offset_below : offset < period

-- There is no link: both entries are 0.
pub record NoLink (offset period : ℕ) : Type 0 where
  pub offset_none : offset ≡ 0
  pub period_none : period ≡ 0

-- All entries are as they should be: those of the links, and those past the last link. The numbers of links go from 0 to 63.
pub record Listed (s : Schedule) : Type 0 where
  pub offsets_long : length s.offsets ≡ 63
  pub periods_long : length s.periods ≡ 63
  pub few : s.links ≤ 63
  pub slots : (i : ℕ) → i < s.links → SlotsWithin (get_or s.offsets i 0) (get_or s.periods i 0)
  pub spare : (i : ℕ) → s.links ≤ i → NoLink (get_or s.offsets i 0) (get_or s.periods i 0)
