-- Right because `settle` judges this site and leaves it with its schedule.
use mathlib.Core.Path.{ap}
use Rattle.rulings.specs.Outcome.{or_else}
use Rattle.judgement.specs.Judge.{with_site}
use Rattle.judgement.proofs.judge.Goals as goal

pub returns-in-Ok : goal.returns-in-Ok
unfolding with_site or_else
returns-in-Ok c = ap with_site c.in-Ok.ensures.judged
