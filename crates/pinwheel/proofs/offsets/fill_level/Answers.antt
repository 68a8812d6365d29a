use mathlib.Core.Path.{◌∙◌}
use native.Mathlib.Omega.{arith}
use Rattle.std.proofs.lemmas.List.{map-set}
use Rattle.pinwheel.proofs.Laws.Turns.{assigning_pass, assigning_place, assigning_found, assigning_turn, assigning_end, dealt_room, front_positive, front_free}
use Rattle.pinwheel.proofs.offsets.fill_level.Goals as goal
use Rattle.pinwheel.proofs.offsets.fill_level.Goals.{else-periods-i, then-periods-i}

pub bounds-turns-turns : goal.bounds-turns-turns
bounds-turns-turns c =
    let pre = c.requires in
    assigning_place _ _ _ _ _ _ _ _ _ c.loop-i.invariant pre.2 pre.1 c.loop-i-test.true c.if-periods-i.true

pub free_offset-offset-requires : goal.free_offset-offset-requires
free_offset-offset-requires c =
    let sofar = c.loop-i.invariant in
    let pre = c.requires in
    let place = assigning_place _ _ _ _ _ _ _ _ _ sofar pre.2 pre.1 c.loop-i-test.true c.if-periods-i.true in
    front_positive _ _ (dealt_room _ _ sofar.ready.steps_long place) sofar.ready.positive

pub overflow_add-turns-then-periods-i : goal.overflow_add-turns-then-periods-i
overflow_add-turns-then-periods-i c =
    let sofar = c.loop-i.invariant in
    let pre = c.requires in
    let place = assigning_place _ _ _ _ _ _ _ _ _ sofar pre.2 pre.1 c.loop-i-test.true c.if-periods-i.true in
    let few = dealt_room _ _ sofar.ready.steps_long place in
    let found = assigning_found _ _ _ _ _ _ _ _ _ sofar pre.2 pre.1 c.loop-i-test.true c.if-periods-i.true _ (c.free_offset-offset.ensures ∙ front_free _ _ few _ _) in
    omega arith

pub loop-i-preserved : goal.loop-i-preserved
loop-i-preserved c =
    let sofar = c.loop-i.invariant in
    let pre = c.requires in
    elim c.if-periods-i.branch [
      | then-periods-i w ↦
          let place = assigning_place _ _ _ _ _ _ _ _ _ sofar pre.2 pre.1 c.loop-i-test.true w.if-periods-i.true in
          let few = dealt_room _ _ sofar.ready.steps_long place in
          rw (w.offsets-is, w.turns-is) (simp map-set (assigning_turn _ _ _ _ _ _ _ _ _ sofar pre.2 pre.1 c.loop-i-test.true w.if-periods-i.true _ (w.free_offset-offset.ensures ∙ front_free _ _ few _ _)))
      | else-periods-i w ↦ rw (w.offsets-is, w.turns-is) (assigning_pass _ _ _ _ _ _ _ _ _ sofar c.loop-i-test.true w.if-periods-i.false)
    ]

pub returns : goal.returns
returns c = assigning_end _ _ _ _ _ _ _ _ _ c.loop-i.invariant c.loop-i-test.false
