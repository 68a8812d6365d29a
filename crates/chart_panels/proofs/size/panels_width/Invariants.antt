-- Right because the width of the widest panel of the parents below this one is known.
use Rattle.std.proofs.Common.{◌≡◌}
use Rattle.chart_panels.specs.Size.{width_to}
use Rattle.chart_panels.proofs.size.panels_width.Given as goal

abbrev pub invariant-loop-parent : goal.invariant-loop-parent
invariant-loop-parent l = l.width ≡ width_to l.site l.parent
