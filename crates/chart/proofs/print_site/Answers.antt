-- Right because a site has at most 64 flows.
use Rattle.site.proofs.Laws.Flows.{flows_few}
use Rattle.chart.proofs.print_site.Goals as goal

pub table_height-requires : goal.table_height-requires
table_height-requires c = rw c.flow_count-flows.ensures (flows_few _)

pub print_table-requires : goal.print_table-requires
print_table-requires c = rw c.flow_count-flows.ensures (flows_few _)
