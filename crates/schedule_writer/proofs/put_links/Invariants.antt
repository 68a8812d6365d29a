-- Right because `Stored` holds: the links before i are stored one after the other up to `at`.
use Rattle.schedule_check.specs.Schedules.{of_lists}
use Rattle.schedule_writer.specs.Write.{link_bytes}
use Rattle.slices.proofs.Laws.Stores.{Stored}
use Rattle.schedule_writer.proofs.put_links.Given as goal

abbrev pub invariant-loop-i : goal.invariant-loop-i
invariant-loop-i l = Stored (link_bytes (of_lists l.links l.offsets l.periods)) l.links 0 l.initial.out l.i l.at l.out
