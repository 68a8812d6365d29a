use native.Mathlib.Omega.{arith}
use Rattle.slices.proofs.Laws.Put.{pasted_start, pasted_long, pasted_more, pasted_end}
use Rattle.slices.proofs.store.Goals as goal

pub loop-i-init : goal.loop-i-init
loop-i-init c = pasted_start _ _ _

pub bounds-out-at : goal.bounds-out-at
bounds-out-at c = omega (arith, pasted_long _ _ _ _ _ (omega arith) c.loop-i.invariant)

pub loop-i-preserved : goal.loop-i-preserved
loop-i-preserved c = pasted_more _ _ _ _ _ (omega arith) c.loop-i.invariant (omega arith)

pub returns : goal.returns
returns c = pasted_end _ _ _ _ _ c.loop-i.invariant (omega arith)
