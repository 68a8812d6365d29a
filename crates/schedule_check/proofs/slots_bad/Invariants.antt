-- Right because `bad` says whether some link before index i has bad slots.
use Rattle.lists.specs.Search.{any}
use Rattle.schedule_check.specs.Check.{bad_at}
use Rattle.schedule_check.proofs.Laws.Check.{Seen}
use Rattle.schedule_check.proofs.slots_bad.Given as goal

abbrev pub invariant-loop-i : goal.invariant-loop-i
invariant-loop-i l = Seen (bad_at l.offsets l.periods) l.links l.i l.bad (any (bad_at l.offsets l.periods) l.links 0)
