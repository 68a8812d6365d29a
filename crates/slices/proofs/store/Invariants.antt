-- Right because the bytes before index i of the word are pasted in and the rest is as it was.
use Rattle.slices.proofs.Laws.Put.{Pasted}
use Rattle.slices.proofs.store.Given as goal

abbrev pub invariant-loop-i : goal.invariant-loop-i
invariant-loop-i l = Pasted l.initial.out l.at l.word l.i l.out
