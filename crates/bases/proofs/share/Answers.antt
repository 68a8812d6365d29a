use Prim.Native.Nat.{ℕ, ◌/◌, ◌^◌}
use mathlib.Core.Path.{sym, ◌∙◌, ap}
use native.Mathlib.Nat.{pow-suc, div-div-eq-div-mul}
use native.Mathlib.Omega.{arith}
use Rattle.slot_rule.proofs.Laws.Periods.{grown_more, grown_end}
use Rattle.bases.proofs.share.Goals as goal

pub loop-grown-preserved : goal.loop-grown-preserved
loop-grown-preserved c = let start = c.args in
    grown_more _ _ _ _ c.requires.0 _ _ c.loop-grown.invariant _ (omega arith)
    (λ e q. ap (λ (n : ℕ). n / start.factor) q ∙ div-div-eq-div-mul start.whole (start.factor ^ e) start.factor
    ∙ ap (λ (n : ℕ). start.whole / n) (sym (pow-suc start.factor e)))

pub returns : goal.returns
returns c =
    let pre = c.requires in
    (grown_end _ _ _ _ pre.0 _ _ c.loop-grown.invariant pre.1 (omega arith)).1
