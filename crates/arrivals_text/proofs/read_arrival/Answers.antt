-- Right because the first `=` parts N from K.
use native.Mathlib.Omega.{arith}
use Rattle.arrivals_text.proofs.Laws.Words.{arrival_unsigned, arrival_no_flow, arrival_no_count, arrival_both, count_most}
use Rattle.arrivals_text.proofs.read_arrival.Goals as goal

pub returns-in_err-sign : goal.returns-in_err-sign
returns-in_err-sign c = rw c.from_residual.ensures (arrival_unsigned _ c.in_err-sign.ensures, tt)

pub returns-in_err-flow : goal.returns-in_err-flow
returns-in_err-flow c = rw c.from_residual-in_err-flow.ensures (arrival_no_flow _ _ c.in_ok-sign.ensures c.in_err-flow.ensures, tt)

pub returns-in_err-count : goal.returns-in_err-count
returns-in_err-count c = rw c.from_residual-in_err-count.ensures (arrival_no_count _ _ c.in_ok-sign.ensures c.in_err-count.ensures, tt)

pub overflow_cast-result-2 : goal.overflow_cast-result-2
overflow_cast-result-2 c = omega (arith, count_most _ _ c.in_ok-sign.ensures _ c.in_ok-count.ensures)

pub returns : goal.returns
returns c = arrival_both _ _ c.in_ok-sign.ensures _ _ c.in_ok-flow.ensures c.in_ok-count.ensures
