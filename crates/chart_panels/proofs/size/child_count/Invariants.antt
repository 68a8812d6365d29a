-- Right because so many of the links before this one are the parent's, which are at most all of them.
use Rattle.std.proofs.Common.{◌≡◌, ◌≤◌, cond, get_or, ◌==◌}
use Rattle.lists.specs.Lists.{sum_to}
use Rattle.chart_panels.proofs.size.child_count.Given as goal

abbrev pub invariant-loop-i : goal.invariant-loop-i
invariant-loop-i l = record {
  few : l.count ≤ l.i;
  is : l.count ≡ sum_to (λ i. cond (get_or l.site.parents i 0 == l.parent) 1 0) l.i;
}
