use native.Mathlib.Omega.{arith}
use Rattle.schedule.proofs.Laws.Schedule.{assigning_start, assigning_none, assigning_more, assigning_crowded, assigning_end, base_missing, base_given}
use Rattle.schedule.proofs.assign_all.Goals as goal

pub loop-parent-init : goal.loop-parent-init
loop-parent-init c =
    assigning_start _ _ _ _ c.link_count-links.ensures (rw (← c.link_count-links.ensures) at c.chains_of-chains.ensures)

pub loop-parent-preserved-then-links-chains : goal.loop-parent-preserved-then-links-chains
loop-parent-preserved-then-links-chains c = assigning_none _ _ _ _ _ _ _ c.loop-parent.invariant c.loop-parent-test.true c.if-links-chains.true

pub returns-then-links-chains : goal.returns-then-links-chains
returns-then-links-chains c =
    let last = assigning_none _ _ _ _ _ _ _ c.loop-parent.invariant c.loop-parent-test.true c.if-links-chains.true in
    assigning_end _ _ _ _ _ _ _ last (omega arith)

pub returns-then-is_none : goal.returns-then-is_none
returns-then-is_none c =
    let told = c.assign_to-base.ensures in
    let none = base_missing _ _ told.0 c.if-is_none.ensures in
    assigning_crowded _ _ _ _ _ _ _ c.loop-parent.invariant c.loop-parent-test.true _ _ _ _ told.1 c.if-links-chains.false none

pub loop-parent-preserved : goal.loop-parent-preserved
loop-parent-preserved c =
    let told = c.assign_to-base.ensures in
    let some = base_given _ _ told.0 c.if-is_none.ensures in
    assigning_more _ _ _ _ _ _ _ c.loop-parent.invariant c.loop-parent-test.true _ _ _ _ told.1 some _ _
    (rw (← c.link_count-links.ensures) at c.spread.ensures.0) (rw (← c.link_count-links.ensures) at c.spread.ensures.1)

pub returns-else-is_none : goal.returns-else-is_none
returns-else-is_none c =
    let told = c.assign_to-base.ensures in
    let some = base_given _ _ told.0 c.if-is_none.ensures in
    let last = assigning_more _ _ _ _ _ _ _ c.loop-parent.invariant c.loop-parent-test.true _ _ _ _ told.1 some _ _
    (rw (← c.link_count-links.ensures) at c.spread.ensures.0) (rw (← c.link_count-links.ensures) at c.spread.ensures.1) in
    assigning_end _ _ _ _ _ _ _ last (omega arith)
