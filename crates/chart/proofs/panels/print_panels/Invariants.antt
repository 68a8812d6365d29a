-- Right because no panel is higher than 65535, and a parent is the root or one of at most 63 nodes.
use Rattle.std.proofs.Common.{◌+◌, ◌*◌, ◌≤◌}
use Rattle.chart.proofs.panels.print_panels.Given as goal

abbrev pub invariant-loop-parent : goal.invariant-loop-parent
invariant-loop-parent l = l.y ≤ 84 + 65535 * l.parent
