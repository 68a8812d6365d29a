-- Right because each turn takes up some of the bytes that are left, and the rehearsal then stands where those before take it.
use mathlib.Core.Path.{◌≡◌}
use lib.ListN.{length}
use Rattle.rehearsal.proofs.Laws.Runs.{Typed}
use Rattle.rehearse.proofs.answer_bytes.Given as goal

abbrev pub invariant-loop-rest : goal.invariant-loop-rest
invariant-loop-rest l = record {
  goes : Typed l.bytes l.rest (record { site = l.initial.now.site; counters = l.initial.counters }) l.initial.space l.initial.now.kept
      (record { site = l.now.site; counters = l.counters }) l.space l.now.kept;
  space_long : length l.space ≡ length l.initial.space;
  counters_long : length l.counters ≡ length l.initial.counters;
  out_long : 16384 ≡ length l.out;
}

abbrev pub decreases-loop-rest : goal.decreases-loop-rest
decreases-loop-rest l = length l.rest
