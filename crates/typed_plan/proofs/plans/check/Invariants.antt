-- Right because no line that is passed is wrong, and their commands and END take `size` bytes.
use lib.ListN.{length}
use Rattle.typed_plan.proofs.Laws.Plans.{Checking}
use Rattle.typed_plan.proofs.plans.check.Given as goal

abbrev pub invariant-loop-i : goal.invariant-loop-i
invariant-loop-i l = Checking l.text (length l.yielded) l.size
