-- Right because 1 and 14 are asked before the checks of the number, which need the states alone.
use Rattle.admission.specs.Calls.{release_ruling}
use Rattle.admission.proofs.Laws.Answers.{call_passes}
use Rattle.admission.proofs.judge_release.Goals as goal

pub returns : goal.returns
unfolding release_ruling
returns c = call_passes _ _ _ c.in_default.ensures _ (c.judge_number.ensures c.args.site.now)
