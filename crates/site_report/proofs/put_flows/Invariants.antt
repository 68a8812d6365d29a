-- Right because the lines of the live flows below this number are put.
use Rattle.lists.specs.Lists.{joined}
use Rattle.text.specs.Page.{Adds}
use Rattle.site_report.specs.Report.{flow_line_if}
use Rattle.site_report.proofs.put_flows.Given as goal

abbrev pub invariant-loop-number : goal.invariant-loop-number
invariant-loop-number l = Adds l.initial.page l.page (joined (flow_line_if l.site) l.number 0)
