-- Right because the entries of the links and those behind them are all that there are.
use native.Mathlib.Omega.{arith}
use Rattle.schedule_check.specs.Schedules.{of_lists}
use Rattle.schedule_check.proofs.Laws.Check.{passes_bad, passes_rest}
use Rattle.schedule_check.proofs.lists_pass.Goals as goal

pub returns-then-not-slots_bad : goal.returns-then-not-slots_bad
returns-then-not-slots_bad c =
    let o = c.in-Some-Some.ensures.cases in
    let p = c.in-Some-Some.ensures'.cases in
    passes_rest (of_lists c.args.links c.args.offsets.now c.args.periods.now) (omega arith) (omega arith) (omega arith) _
    (rw (o.same, p.same) at c.slots_bad.ensures) c.if-not-slots_bad.true _ (rw (o.same, p.same) at c.rest_used.ensures)

pub returns-else-not-slots_bad : goal.returns-else-not-slots_bad
returns-else-not-slots_bad c =
    let o = c.in-Some-Some.ensures.cases in
    let p = c.in-Some-Some.ensures'.cases in
    rw c.if-not-slots_bad.false
    (passes_bad (of_lists c.args.links c.args.offsets.now c.args.periods.now) (omega arith) (omega arith) (omega arith) _
    (rw (o.same, p.same) at c.slots_bad.ensures) c.if-not-slots_bad.false)
