-- 01, One slot: what a slot and a start of the rehearsal answer, and the 576 counters that each leaves, for every input.
use Rattle.std.specs.Prelude.{ℕ, not, cond, List, eqb, length}
use Rattle.rulings.specs.Outcome.{Ruling, accepted, refused, checked}
use Rattle.lists.specs.Lists.{joined}
use Rattle.site.specs.declared.Site.{Site}
use Rattle.site_check.specs.Check.{call_fault}
use Rattle.counters.specs.Blocks.{zeros}
use Rattle.moves.specs.Hops.{Service}
use Rattle.moves.specs.Moves.{cells_after, recounted}
use Rattle.slot_checks.specs.Checks.{arrivals_ruling}

-- 01, the order of a slot's checks: 1 for both lists, 14, then these.
unfoldable pub slot_ruling : Site → List ℕ → List ℕ → Ruling
slot_ruling s counters arrivals =
    cond (not (eqb (length arrivals) 64)) (refused 1 0) (checked (call_fault s counters) (arrivals_ruling s counters arrivals))

-- 01, the order of a start's checks: 1, 14.
unfoldable pub start_ruling : Site → List ℕ → Ruling
start_ruling s counters = checked (call_fault s counters) (accepted tt)

-- 01, One slot: slot t of every flow.
unfoldable pub slot_of : Service → Site → List ℕ → List ℕ → ℕ → Ruling × List ℕ
slot_of v s counters arrivals t = recounted (slot_ruling s counters arrivals) (joined (cells_after v s counters arrivals t) 64 0) counters

-- 01: a start sets all 576 counters to 0.
unfoldable pub start_of : Site → List ℕ → Ruling × List ℕ
start_of s counters = recounted (start_ruling s counters) (zeros 576) counters
