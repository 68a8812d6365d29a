-- Right because `Stored` holds: the nodes before i are stored one after the other up to `at`.
use Rattle.plan_writer.specs.Write.{node_bytes}
use Rattle.slices.proofs.Laws.Stores.{Stored}
use Rattle.plan_writer.proofs.put_nodes.Given as goal

abbrev pub invariant-loop-i : goal.invariant-loop-i
invariant-loop-i l = Stored (node_bytes l.site) l.site.links 0 l.initial.out l.i l.at l.out
