use Prim.Native.Nat.{ℕ, ◌*◌}
use mathlib.Core.Path.{sym, ◌∙◌, ap}
use native.Mathlib.Nat.{pow-suc, mul-le-mul_right}
use native.Mathlib.Omega.{arith}
use Rattle.slot_rule.proofs.Laws.Periods.{grown_turn, grown_more, grown_end}
use Rattle.bases.proofs.Laws.{grown_power}
use Rattle.bases.proofs.rise_of.Goals as goal

pub overflow_mul-power : goal.overflow_mul-power
overflow_mul-power c =
    let w = grown_turn _ _ _ _ c.requires.0 _ _ c.loop-period.invariant (omega arith) in
    omega (arith, w.1, mul-le-mul_right c.args.factor (grown_power _ _ _ _ _ c.requires.1 c.loop-period.invariant))

pub loop-period-preserved : goal.loop-period-preserved
loop-period-preserved c = let f = c.args.factor in
    grown_more _ _ _ _ c.requires.0 _ _ c.loop-period.invariant _ (omega arith) (λ e q. ap (λ (n : ℕ). n * f) q ∙ sym (pow-suc f e))

pub returns : goal.returns
returns c =
    let pre = c.requires in
    grown_end _ _ _ _ pre.0 _ _ c.loop-period.invariant pre.1 (omega arith)
