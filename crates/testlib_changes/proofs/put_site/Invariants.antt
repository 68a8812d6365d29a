-- Right because the fields below the number are put.
use Rattle.lists.specs.Lists.{joined}
use Rattle.text.specs.Page.{Adds}
use Rattle.testlib_changes.specs.Changed.{field_text}
use Rattle.testlib_changes.proofs.put_site.Given as goal

abbrev pub invariant-loop-field : goal.invariant-loop-field
invariant-loop-field l = Adds l.initial.page l.page (joined (field_text l.before l.after) l.field 0)
