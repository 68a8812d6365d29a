-- Right because the counters below the index are put.
use Rattle.lists.specs.Lists.{joined}
use Rattle.text.specs.Page.{Adds}
use Rattle.testlib_changes.specs.Changed.{counter_text}
use Rattle.testlib_changes.proofs.put_counters.Given as goal

abbrev pub invariant-loop-index : goal.invariant-loop-index
invariant-loop-index l = Adds l.initial.page l.page (joined (counter_text l.before l.after) l.index 0)
