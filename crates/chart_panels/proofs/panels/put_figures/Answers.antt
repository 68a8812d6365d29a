-- Right because the figures stand one behind the other.
use Rattle.text.proofs.Laws.Put.{puts_then}
use Rattle.chart_panels.specs.Panels.{figures}
use Rattle.chart_panels.proofs.panels.put_figures.Goals as goal

pub returns : goal.returns
unfolding figures
returns c = (
  cc,
  puts_then _ _ _ _ _ c.put_base.ensures.1
      (puts_then _ _ _ _ _ (rw c.from.ensures at c.put_count.ensures.1)
      (puts_then _ _ _ _ _ c.put_idle.ensures.1 (puts_then _ _ _ _ _ c.put_first_only.ensures.1 c.put.ensures.1))),
)
