-- Right because the numbers stand in their group.
use Rattle.text.proofs.Laws.Put.{puts_then}
use Rattle.chart_rows.specs.Rows.{axis}
use Rattle.chart_rows.proofs.rows.put_axis.Goals as goal

pub returns : goal.returns
unfolding axis
returns c = (cc, puts_then _ _ _ _ _ c.put.ensures.1 (puts_then _ _ _ _ _ c.put_numbers.ensures.1 c.put-2.ensures.1))
