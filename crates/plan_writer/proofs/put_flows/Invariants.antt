-- Right because `Stored` holds: the live flows of the numbers below are stored one after the other up to `at`.
use Rattle.plan_writer.specs.Write.{flow_if_live}
use Rattle.slices.proofs.Laws.Stores.{Stored}
use Rattle.plan_writer.proofs.put_flows.Given as goal

abbrev pub invariant-loop-number : goal.invariant-loop-number
invariant-loop-number l = Stored (flow_if_live l.site) 64 l.start l.initial.out l.number l.at l.out
