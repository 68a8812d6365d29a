-- Right because the answer goes by the ruling of the checks, and so do the site and the counters.
use Rattle.admission.specs.Calls.{release_of}
use Rattle.admission.proofs.Laws.{released_cells}
use Rattle.admission.proofs.Laws.Answers.{call_accepted, call_refused}
use Rattle.admission.proofs.release.Goals as goal

pub returns-in-Err : goal.returns-in-Err
unfolding release_of
returns-in-Err c = call_refused _ _ _ _ _ c.in-Err.ensures _ _

pub returns : goal.returns
unfolding release_of
returns c = call_accepted _ _ _ _ _ c.in_default.ensures _ _ c.without_flow.ensures c.clear_flow.ensures (released_cells _ _ _)
