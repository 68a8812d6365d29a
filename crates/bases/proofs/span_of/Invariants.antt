-- Right because `Spanned` holds: with the smallest and the largest gap before this one the gaps left have those of all.
use Rattle.bases.proofs.Laws.{Spanned}
use Rattle.bases.proofs.span_of.Given as goal

abbrev pub invariant-loop-gap : goal.invariant-loop-gap
invariant-loop-gap l = Spanned l.gaps l.gap-index l.low l.high
