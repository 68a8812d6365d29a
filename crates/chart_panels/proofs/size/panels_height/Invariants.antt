-- Right because the height that the panels of the parents below this one take is known, and none is higher than 65535.
use Rattle.std.proofs.Common.{◌≡◌, ◌+◌, ◌*◌, ◌≤◌}
use Rattle.chart_panels.specs.Size.{height_to}
use Rattle.chart_panels.proofs.size.panels_height.Given as goal

abbrev pub invariant-loop-parent : goal.invariant-loop-parent
invariant-loop-parent l = record {
  most : l.height ≤ 84 + 65535 * l.parent;
  is : l.height ≡ height_to l.site l.parent;
}
