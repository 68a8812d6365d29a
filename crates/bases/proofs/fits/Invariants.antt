-- Right because `Summed` holds: the sum has the shares of the children before this one, each of 16 bits, so that 63 fit.
use Prim.Native.Nat.{◌/◌, ◌^◌}
use Rattle.slot_rule.specs.Rule.{exponent}
use Rattle.lists.proofs.Laws.Lists.{Summed}
use Rattle.bases.proofs.fits.Given as goal

abbrev pub invariant-loop-gap : goal.invariant-loop-gap
invariant-loop-gap l = Summed (λ g. l.limit.power / l.factor ^ exponent l.factor l.base g) 65535 l.gaps l.gap-index l.sum
