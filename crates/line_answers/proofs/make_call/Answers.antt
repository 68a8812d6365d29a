-- Right because each case makes the call that is named, and the promise of the function called is the step.
use mathlib.Core.Path.{refl}
use Rattle.guarantee.specs.Runs.{Promise}
use Rattle.line_answers.specs.Steps.{call_of}
use Rattle.line_answers.proofs.make_call.Goals as goal

pub returns-in-Start : goal.returns-in-Start
unfolding call_of Promise
returns-in-Start c = rw c.in-Start.is (c.start-verdict.ensures, refl)

pub returns-in-Slot : goal.returns-in-Slot
unfolding call_of Promise
returns-in-Slot c = rw c.in-Slot.is (c.slot-verdict.ensures, refl)

pub returns-in-Admit : goal.returns-in-Admit
unfolding call_of Promise
returns-in-Admit c = rw c.in-Admit.is c.admit.ensures

pub returns-in-Release : goal.returns-in-Release
unfolding call_of Promise
returns-in-Release c = rw c.in-Release.is c.release.ensures
