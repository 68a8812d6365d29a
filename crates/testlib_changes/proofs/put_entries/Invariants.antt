-- Right because the entries below the index are put.
use Rattle.lists.specs.Lists.{joined}
use Rattle.text.specs.Page.{Adds}
use Rattle.testlib_changes.specs.Changed.{entry_text}
use Rattle.testlib_changes.proofs.put_entries.Given as goal

abbrev pub invariant-loop-index : goal.invariant-loop-index
invariant-loop-index l = Adds l.initial.page l.page (joined (entry_text l.before l.after l.field) l.index 0)
