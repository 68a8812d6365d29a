-- Right because the numbers of the slots below this one are put.
use Rattle.lists.specs.Lists.{joined}
use Rattle.text.specs.Page.{Adds}
use Rattle.chart_rows.specs.Rows.{number_if}
use Rattle.chart_rows.proofs.rows.put_numbers.Given as goal

abbrev pub invariant-loop-slot : goal.invariant-loop-slot
invariant-loop-slot l = Adds l.initial.page l.page (joined (number_if l.slots l.y) l.slot 0)
