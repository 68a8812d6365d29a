-- Right because two numbered slots are apart.
use Rattle.chart_rows.proofs.Laws.Scale.{spacing_some}
use Rattle.chart_panels.proofs.panels.put_grid.Goals as goal

pub put_edges-requires-2 : goal.put_edges-requires-2
put_edges-requires-2 c = spacing_some _ _ c.spacing_of.ensures
