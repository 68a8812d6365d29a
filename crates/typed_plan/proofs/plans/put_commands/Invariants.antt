-- Right because the commands of the lines passed are put one behind the other.
use lib.ListN.{length}
use mathlib.Core.Path.{◌≡◌}
use Rattle.text.specs.Page.{held}
use Rattle.typed_plan.proofs.Laws.Plans.{Putting}
use Rattle.typed_plan.proofs.plans.put_commands.Given as goal

abbrev pub invariant-loop-line : goal.invariant-loop-line
invariant-loop-line l = record {
  same_space : l.page.space.ghost_name ≡ l.initial.page.space.ghost_name;
  put : Putting l.text (held l.initial.page) (length l.yielded) (held l.page);
}
