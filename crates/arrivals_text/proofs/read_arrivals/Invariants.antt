-- Right because each word that is taken leaves the others to the definition; length line - at falls, since a word is left at each turn.
use Prim.Native.Nat.{◌-◌}
use lib.ListN.{length}
use Rattle.arrivals_text.proofs.Laws.Words.{Reading}
use Rattle.arrivals_text.proofs.read_arrivals.Given as goal

abbrev pub invariant-loop-word : goal.invariant-loop-word
invariant-loop-word l = Reading l.line l.from l.at l.counts l.named

abbrev pub decreases-loop-word : goal.decreases-loop-word
decreases-loop-word l = length l.line - l.at
