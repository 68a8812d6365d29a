-- Right because `used` says whether some entry past the links and before index i is in use.
use Prim.Native.Nat.{◌-◌}
use Rattle.lists.specs.Search.{any}
use Rattle.schedule_check.specs.Check.{used_at}
use Rattle.schedule_check.proofs.Laws.Check.{Seen}
use Rattle.schedule_check.proofs.rest_used.Given as goal

abbrev pub invariant-loop-i : goal.invariant-loop-i
invariant-loop-i l = Seen (used_at l.offsets l.periods) 63 l.i l.used (any (used_at l.offsets l.periods) (63 - l.links) l.links)
