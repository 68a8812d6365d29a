-- Right because so many of the slots below this one are idle, which are at most all of them.
use Rattle.std.proofs.Common.{◌≡◌, ◌≤◌, cond}
use Rattle.lists.specs.Lists.{sum_to}
use Rattle.frames.specs.Marks.{idle}
use Rattle.frames.proofs.idle_count.Given as goal

abbrev pub invariant-loop-slot : goal.invariant-loop-slot
invariant-loop-slot l = record {
  few : l.count ≤ l.slot;
  is : l.count ≡ sum_to (λ t. cond (idle l.site l.parent t) 1 0) l.slot;
}
