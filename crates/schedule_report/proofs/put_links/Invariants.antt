-- Right because the lines of the links before this one are put.
use Rattle.lists.specs.Lists.{joined}
use Rattle.text.specs.Page.{Adds}
use Rattle.schedule_report.specs.Report.{slots_line}
use Rattle.schedule_report.proofs.put_links.Given as goal

abbrev pub invariant-loop-i : goal.invariant-loop-i
invariant-loop-i l = Adds l.initial.page l.page (joined (slots_line l.schedule) l.i 0)
