-- Right because the slot rule is lent the gaps and as many zeros twice, and the rest of both lists comes back as it was.
use mathlib.Core.Path.{◌∙◌}
use Rattle.schedule.proofs.Laws.Schedule.{assigned_by}
use Rattle.schedule.proofs.assign_to.Goals as goal

pub returns : goal.returns
returns c =
    let told = assigned_by _ _ _ _ _ _ c.gaps_under-n.ensures c.requires.1 c.requires.2 _ _ _ c.assign.ensures c.assign.auto.offsets c.assign.auto.periods in
    (c.ok.ensures.value ∙ told.0, told.1)
