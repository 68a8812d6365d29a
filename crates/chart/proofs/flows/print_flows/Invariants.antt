-- Right because a row is 20 high and there is one for a flow number at most.
use Rattle.std.proofs.Common.{◌+◌, ◌*◌, ◌≤◌}
use Rattle.chart.proofs.flows.print_flows.Given as goal

abbrev pub invariant-loop-number : goal.invariant-loop-number
invariant-loop-number l = l.y ≤ 58 + 20 * l.number-counter
