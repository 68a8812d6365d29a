-- Right because nodes, flows and FF stand one after the other, and their number of bytes is known before the first is stored.
use native.Mathlib.Omega.{arith}
use Rattle.plan_writer.proofs.Laws.Write.{plan_length, plan_stored}
use Rattle.slices.proofs.Laws.Stores.{written_short, written_all}
use Rattle.plan_writer.proofs.put_plan.Goals as goal

pub returns-then-out-size : goal.returns-then-out-size
returns-then-out-size c = rw c.at.ensures (written_short _ _ _ c.plan_size-size.ensures (omega arith))

pub put_nodes-start-requires-clause-room : goal.put_nodes-start-requires-clause-room
put_nodes-start-requires-clause-room c = omega (arith, plan_length c.args.site.now)

pub put_flows-end-requires : goal.put_flows-end-requires
put_flows-end-requires c = omega (arith, plan_length c.args.site.now)

pub bounds-out-end : goal.bounds-out-end
bounds-out-end c = omega (arith, plan_length c.args.site.now)

pub returns : goal.returns
returns c =
    written_all _ _ _ c.plan_size-size.ensures _ (omega arith)
    (plan_stored _ _ _ _ _ _ c.put_nodes-start.ensures.bytes c.put_nodes-start.ensures.end c.put_flows-end.ensures.bytes c.put_flows-end.ensures.end)
