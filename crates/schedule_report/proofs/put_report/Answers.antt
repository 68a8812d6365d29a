-- Right because the lines are those of what was read, by the case of the verdict.
use Rattle.report_lines.proofs.Laws.Read.{read_given}
use Rattle.schedule_reader.specs.Read.{with_links}
use Rattle.schedule_report.specs.Report.{schedule_lines}
use Rattle.schedule_report.proofs.put_report.Goals as goal

pub returns-in-Ok : goal.returns-in-Ok
unfolding with_links schedule_lines
returns-in-Ok c = rw (← read_given _ _ _ _ c.read_schedule-read.ensures, c.in-Ok.is) c.put_schedule.ensures

pub returns-in-Err : goal.returns-in-Err
unfolding with_links schedule_lines
returns-in-Err c = rw (← read_given _ _ _ _ c.read_schedule-read.ensures, c.in-Err.is) (rw c.number.ensures at c.put_refusal_line.ensures)
