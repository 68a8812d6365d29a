-- Right because a row is 20 high and there is one for a link at most.
use Rattle.std.proofs.Common.{◌+◌, ◌*◌, ◌≤◌}
use Rattle.chart.proofs.panels.print_links.Given as goal

abbrev pub invariant-loop-i : goal.invariant-loop-i
invariant-loop-i l = l.y ≤ 46 + 20 * l.i
