use mathlib.Core.Path.{◌≡◌, ◌∙◌, ap}
use lib.ListN.{length}
use native.Mathlib.Omega.{arith}
use Rattle.slices.proofs.Laws.Stores.{stored_room, stored_end}
use Rattle.plan_writer.specs.Write.{node_bytes}
use Rattle.plan_writer.proofs.Laws.Write.{node_made, node_size, stored_sized}
use Rattle.plan_writer.proofs.put_nodes.Goals as goal

pub overflow_add-at : goal.overflow_add-at
overflow_add-at c =
    let made_of : c.node_command-command.result ≡ node_bytes c.args.site.now c.loop-i.i = c.node_command-command.ensures ∙ node_made _ _ in
    let room = stored_room _ _ _ _ _ _ _ c.loop-i.invariant _ (omega arith) made_of in
    omega (arith, c.requires.room, c.size-at.ensures, node_size c.args.site.now c.loop-i.i, ap length made_of)

pub loop-i-preserved : goal.loop-i-preserved
loop-i-preserved c =
    let made_of : c.node_command-command.result ≡ node_bytes c.args.site.now c.loop-i.i = c.node_command-command.ensures ∙ node_made _ _ in
    stored_sized _ _ _ _ (omega (arith, c.requires.room)) _ _ _ c.loop-i.invariant (omega arith) _ made_of _ _ c.put.ensures _
    (omega (arith, c.size-at.ensures, node_size c.args.site.now c.loop-i.i, ap length made_of))

pub returns-clause-bytes : goal.returns-clause-bytes
returns-clause-bytes c = (stored_end _ _ _ _ _ _ _ c.loop-i.invariant (omega arith)).0

pub returns-clause-end : goal.returns-clause-end
returns-clause-end c = omega (arith, (stored_end _ _ _ _ _ _ _ c.loop-i.invariant (omega arith)).1)
