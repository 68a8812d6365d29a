use mathlib.Core.Path.{sym, ap, ◌∙◌}
use Rattle.std.specs.Prelude.{ℕ, Option, unwrap_or}
use Rattle.lists.proofs.Laws.Lists.{filled_more, filled_end}
use Rattle.bases.proofs.Laws.{period_some}
use Rattle.pinwheel.proofs.periods.fill.Goals as goal

pub loop-i-preserved : goal.loop-i-preserved
loop-i-preserved c =
    let allowed = c.requires.0 in
    let turn = c.loop-i-test.true in
    filled_more _ _ _ _ _ _ _ c.loop-i.invariant turn
    (c.unwrap_or.ensures ∙ ap (λ (o : Option ℕ). unwrap_or o 0) (c.period_of.ensures ∙ sym (period_some _ _ _ allowed.two allowed.one (allowed.within _ turn))))

pub returns : goal.returns
returns c = filled_end _ _ _ _ _ _ c.loop-i.invariant c.loop-i-test.false
