-- Right because the plan of the site without the flow is the old plan without its FLOW, and the cells are cleared only where there is room for the rest.
use Prim.Native.Nat.{◌+◌, ◌≤◌}
use mathlib.Core.Path.{refl, sym}
use lib.ListN.{length}
use lib.Seq.{length-take-le}
use native.Mathlib.Omega.{arith}
use Rattle.format.specs.Commands.{size_of}
use Rattle.host_changes.proofs.Laws.Changes.{release_place, release_short, release_done}
use Rattle.host_changes.proofs.dropped.Goals as goal

pub overflow_sub-size : goal.overflow_sub-size
unfolding size_of
overflow_sub-size c = omega (arith, release_place _ _ _ c.requires.0 _ c.requires.1 _ refl, c.size.ensures)

pub returns-then-out-size : goal.returns-then-out-size
unfolding size_of
returns-then-out-size c = rw c.refusal_of.ensures (release_short _ _ _ c.requires.0 _ c.requires.1 _ (omega (arith, c.size.ensures)))

pub overflow_add-behind : goal.overflow_add-behind
unfolding size_of
overflow_add-behind c =
    let within : c.place_of-at.result + c.size-2.result ≤ length c.args.plan.now = omega (arith, release_place _ _ _ c.requires.0 _ c.requires.1 _ c.place_of-at.ensures, c.size-2.ensures) in
    omega (arith, within)

pub slice_bounds-put-end : goal.slice_bounds-put-end
unfolding size_of
slice_bounds-put-end c =
    let within : c.place_of-at.result + c.size-2.result ≤ length c.args.plan.now = omega (arith, release_place _ _ _ c.requires.0 _ c.requires.1 _ c.place_of-at.ensures, c.size-2.ensures) in
    sym (length-take-le _ _ (omega (arith, within)))

pub slice_bounds-put-count : goal.slice_bounds-put-count
unfolding size_of
slice_bounds-put-count c =
    let within : c.place_of-at.result + c.size-2.result ≤ length c.args.plan.now = omega (arith, release_place _ _ _ c.requires.0 _ c.requires.1 _ c.place_of-at.ensures, c.size-2.ensures) in
    within

pub slice_bounds-put-start : goal.slice_bounds-put-start
unfolding size_of
slice_bounds-put-start c =
    let within : c.place_of-at.result + c.size-2.result ≤ length c.args.plan.now = omega (arith, release_place _ _ _ c.requires.0 _ c.requires.1 _ c.place_of-at.ensures, c.size-2.ensures) in
    within

pub returns : goal.returns
returns c =
    release_done _ _ _ c.requires.0 _ c.requires.1 _ _ _ _ _ _ _ _ _ c.size.ensures c.size-2.ensures c.place_of-at.ensures
    (omega arith) c.put-kept.ensures c.put.ensures c.clear_flow.ensures
