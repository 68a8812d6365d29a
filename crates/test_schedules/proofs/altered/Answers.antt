use Rattle.testlib_text.proofs.Laws.Lines.{change_less}
use Rattle.test_schedules.proofs.altered.Goals as goal

pub loop-change-smaller : goal.loop-change-smaller
loop-change-smaller c = change_less _ _ _ _ c.next_change.ensures.line _ c.in-Ok.ensures.value c.next_change.ensures.behind
