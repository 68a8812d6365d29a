-- Right because each read takes the rehearsal on from where the last one left it.
use mathlib.Core.Path.{◌≡◌}
use lib.ListN.{length}
use Rattle.rehearsal.specs.Desk.{SomeTyped}
use Rattle.rehearse.proofs.answer_input.Given as goal

abbrev pub invariant-loop : goal.invariant-loop
invariant-loop l = record {
  goes : SomeTyped (record { site = l.initial.now.site; counters = l.initial.counters }) l.initial.space l.initial.now.kept
      (record { site = l.now.site; counters = l.counters }) l.space l.now.kept;
  space_long : length l.space ≡ length l.initial.space;
  counters_long : length l.counters ≡ length l.initial.counters;
  bytes_long : 1024 ≡ length l.bytes;
}
