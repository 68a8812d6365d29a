-- What is proved of schedule files without the writers: what a refused one gives, and that the first 1,024 bytes settle each. The modules named here hold
-- the lemmas.
pub mod Commands
pub mod Readings
use Prim.Native.Nat.{ℕ, ◌≤◌}
use mathlib.Core.Path.{◌≡◌}
use mathlib.Core.List.{List}
use lib.ListN.{take}
use Rattle.rulings.specs.Outcome.{refused, or_else}
use Rattle.schedule_check.specs.Schedules.{without_links}
use Rattle.schedule_reader.specs.Read.{with_links, schedule_read}
use Rattle.schedule_reader.proofs.Laws.Readings.{schedule_settled}

-- 01: a refused reading gives the schedule without links.
pub refused_without : (bytes : List ℕ) (number place : ℕ) → schedule_read bytes ≡ refused number place
    → with_links (schedule_read bytes) ≡ (refused number place, without_links)
unfolding with_links or_else
refused_without bytes number place e = rw e

-- No input passes more than 63 LINKs and END.
pub schedule_first : (bytes : List ℕ) (n : ℕ) → 1024 ≤ n → schedule_read (take n bytes) ≡ schedule_read bytes
schedule_first = schedule_settled
