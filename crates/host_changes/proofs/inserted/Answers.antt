-- Right because the plan of the site with the flow is the old plan with its FLOW put in at its place, and the cells are cleared only where there is room for it.
use Prim.Native.Nat.{◌≤◌}
use mathlib.Core.Path.{sym}
use lib.ListN.{length}
use lib.Seq.{length-take-le}
use native.Mathlib.Omega.{arith}
use Rattle.format.specs.Commands.{size_of}
use Rattle.host_changes.proofs.Laws.Changes.{admit_place, admit_few, admit_short, admit_done}
use Rattle.host_changes.proofs.inserted.Goals as goal

pub overflow_add-size : goal.overflow_add-size
unfolding size_of
overflow_add-size c = omega (arith, admit_few _ _ _ c.requires.0 _ c.requires.1, c.size.ensures)

pub returns-then-out-size : goal.returns-then-out-size
unfolding size_of
returns-then-out-size c = rw c.refusal_of.ensures (admit_short _ _ _ c.requires.0 _ c.requires.1 _ (omega (arith, c.size.ensures)))

pub slice_bounds-put-end : goal.slice_bounds-put-end
slice_bounds-put-end c =
    let within : c.place_of-at.result ≤ length c.args.plan.now = admit_place _ _ _ c.requires.0 _ c.requires.1 _ _ c.place_of-at.ensures (omega arith) in
    sym (length-take-le _ _ within)

pub slice_bounds-put-count : goal.slice_bounds-put-count
slice_bounds-put-count c =
    let within : c.place_of-at.result ≤ length c.args.plan.now = admit_place _ _ _ c.requires.0 _ c.requires.1 _ _ c.place_of-at.ensures (omega arith) in
    within

pub slice_bounds-put-start : goal.slice_bounds-put-start
slice_bounds-put-start c =
    let within : c.place_of-at.result ≤ length c.args.plan.now = admit_place _ _ _ c.requires.0 _ c.requires.1 _ _ c.place_of-at.ensures (omega arith) in
    within

pub returns : goal.returns
returns c =
    admit_done _ _ _ c.requires.0 _ c.requires.1 _ _ _ _ _ _ _ _ _ _ _ c.size.ensures c.place_of-at.ensures
    c.flow_command-command.ensures (omega arith) c.put-kept.ensures c.put-added.ensures c.put.ensures
    c.clear_flow.ensures
