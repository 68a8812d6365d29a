-- Right because a crowded parent gives 11, and where there is none the lists assigned are the whole schedule, with which 12 is asked before 13, each at the first
-- that was found; the sums are handed out only where neither refuses.
use Prim.Native.Nat.{◌<◌}
use native.Mathlib.Omega.{arith}
use Rattle.lists.proofs.Laws.Search.{past_is}
use Rattle.site.specs.Sites.{used, with_schedule}
use Rattle.schedule.specs.Schedule.{first_crowded}
use Rattle.judgement.proofs.Laws.Rulings.{over_few, settled_crowded, settled_over, settled_late, settled_passed}
use Rattle.judgement.proofs.settle.Goals as goal

pub returns-in-Some : goal.returns-in-Some
returns-in-Some c = rw c.at.ensures (settled_crowded _ _ _ c.in-Some.ensures.crowded)

pub overflow_add-link : goal.overflow_add-link
overflow_add-link c = omega (arith, over_few _ _ _ _ c.first_faults-faults.ensures _ c.in-Some-over.is)

pub returns-in-Some-over : goal.returns-in-Some-over
unfolding with_schedule
returns-in-Some-over c =
    let none : used c.args.site.now.links < first_crowded c.args.site.now = omega (arith, past_is _ _ c.in_default.ensures.crowded) in
    let slots = c.in_default.ensures in
    rw c.at-in-Some-over.ensures
    (settled_over _ _ _ _ none (slots.offsets none) (slots.periods none) _ _ _ c.first_faults-faults.ensures _ c.in-Some-over.is)

pub returns-in-Some-late : goal.returns-in-Some-late
unfolding with_schedule
returns-in-Some-late c =
    let none : used c.args.site.now.links < first_crowded c.args.site.now = omega (arith, past_is _ _ c.in_default.ensures.crowded) in
    let slots = c.in_default.ensures in
    rw c.at-in-Some-late.ensures
    (settled_late _ _ _ _ none (slots.offsets none) (slots.periods none) _ _ _ c.first_faults-faults.ensures c.in_default-over.is _ c.in-Some-late.is)

pub returns : goal.returns
unfolding with_schedule
returns c =
    let none : used c.args.site.now.links < first_crowded c.args.site.now = omega (arith, past_is _ _ c.in_default.ensures.crowded) in
    let slots = c.in_default.ensures in
    settled_passed _ _ _ _ none (slots.offsets none) (slots.periods none) _ _ _ c.first_faults-faults.ensures c.in_default-over.is c.in_default-late.is
