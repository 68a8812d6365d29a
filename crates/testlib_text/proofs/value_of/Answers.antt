use mathlib.Core.Path.{◌∙◌}
use native.Mathlib.Omega.{arith}
use Rattle.testlib_text.proofs.Laws.Lines.{saying_more}
use Rattle.testlib_text.proofs.value_of.Goals as goal

pub loop-digit-preserved : goal.loop-digit-preserved
loop-digit-preserved c =
    saying_more _ _ _ c.loop-digit.invariant _ c.loop-digit-test.true (c.from.ensures ∙ c.saturating_sub.ensures) (omega (arith, c.from.ensures))
