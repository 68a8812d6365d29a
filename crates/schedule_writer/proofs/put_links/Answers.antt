use mathlib.Core.Path.{◌≡◌, ◌∙◌, ap}
use lib.ListN.{length}
use native.Mathlib.Omega.{arith}
use Rattle.schedule_check.specs.Schedules.{of_lists}
use Rattle.schedule_writer.specs.Write.{link_bytes}
use Rattle.slices.proofs.Laws.Put.{put_sets}
use Rattle.slices.proofs.Laws.Stores.{stored_more, stored_room, stored_end}
use Rattle.schedule_writer.proofs.Laws.Write.{link_made, link_size}
use Rattle.schedule_writer.proofs.put_links.Goals as goal

pub overflow_add-at : goal.overflow_add-at
overflow_add-at c =
    let s = of_lists c.args.links c.args.offsets.now c.args.periods.now in
    let made_of : c.link_command-command.result ≡ link_bytes s c.loop-i.i = c.link_command-command.ensures ∙ link_made s _ in
    let room = stored_room _ _ _ _ _ _ _ c.loop-i.invariant _ (omega arith) made_of in
    let size = c.schedule_size-at.ensures in
    omega (arith, link_size s c.loop-i.i, ap length made_of)

pub loop-i-preserved : goal.loop-i-preserved
loop-i-preserved c =
    let s = of_lists c.args.links c.args.offsets.now c.args.periods.now in
    let made_of : c.link_command-command.result ≡ link_bytes s c.loop-i.i = c.link_command-command.ensures ∙ link_made s _ in
    let sofar = c.loop-i.invariant in
    let room = stored_room _ _ _ _ _ _ _ sofar _ (omega arith) made_of in
    let long = sofar.long in
    stored_more _ _ _ _ _ _ _ sofar _ _ _ (omega arith) made_of (put_sets _ _ _ _ _ (omega arith) c.put.ensures)
    (rw (c.schedule_size-at.ensures, made_of, link_size s c.loop-i.i))

pub returns : goal.returns
returns c = let end = stored_end _ _ _ _ _ _ _ c.loop-i.invariant (omega arith) in (end.0, end.1 ∙ omega arith)
