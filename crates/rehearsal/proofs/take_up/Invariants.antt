-- Right because what stands after some bytes goes on to what all of them come to; each round takes one more at least.
use Prim.Native.Nat.{◌-◌}
use mathlib.Core.Path.{◌≡◌}
use lib.ListN.{length}
use Rattle.text.specs.Page.{held}
use Rattle.rehearsal.proofs.Laws.Typing.{TakingUp}
use Rattle.rehearsal.proofs.take_up.Given as goal

abbrev pub invariant-loop-taken : goal.invariant-loop-taken
invariant-loop-taken l = record {
  going : TakingUp l.bytes l.initial.space l.initial.answers.space.now (record { site = l.initial.site; counters = l.initial.counters })
      l.initial.kept l.taken (record { site = l.site; counters = l.counters }) l.space l.kept (held l.answers);
  answers_same : l.answers.space.ghost_name ≡ l.initial.answers.space.ghost_name;
  counters_long : length l.counters ≡ length l.initial.counters;
}

abbrev pub decreases-loop-taken : goal.decreases-loop-taken
decreases-loop-taken l = length l.bytes - l.taken
