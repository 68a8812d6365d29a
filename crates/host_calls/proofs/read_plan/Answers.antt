-- Right because the plan is counted where it is read to a site, and else the refusal of the reading is told.
use native.Mathlib.Omega.{arith}
use Rattle.host_answers.specs.Calls.{by_reading}
use Rattle.host_answers.proofs.Laws.Calls.{read_told}
use Rattle.host_calls.specs.Calls.{plan_read_from}
use Rattle.host_calls.proofs.read_plan.Goals as goal

pub returns-in-Err : goal.returns-in-Err
unfolding plan_read_from by_reading
returns-in-Err c =
    rw (← c.in-Err.ensures) (read_told _ (λ i. omega (arith, c.type_inv.plan i)) _ _ _ c.in-Err.ensures c.answer.ensures)
