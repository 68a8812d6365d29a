-- Right because a flow is live just when its state is 1, and a number that the list has not is not.
use mathlib.Core.Path.{refl}
use native.Mathlib.Omega.{arith}
use Rattle.site.specs.Sites.{live}
use Rattle.site.proofs.Laws.Flows.{dead_beyond}
use Rattle.site.proofs.live_in.Goals as goal

pub returns-then-states-n : goal.returns-then-states-n
returns-then-states-n c = λ s. dead_beyond _ _ (omega arith)

pub returns : goal.returns
unfolding live
returns c = λ s. refl
