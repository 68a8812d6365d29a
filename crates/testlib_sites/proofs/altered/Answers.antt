use mathlib.Core.Path.{refl, sym, ◌∙◌}
use Rattle.testlib_text.proofs.Laws.Lines.{change_less}
use Rattle.testlib_sites.proofs.Laws.{altering_start, altering_more, altering_end}
use Rattle.testlib_sites.proofs.altered.Goals as goal

pub loop-change-init : goal.loop-change-init
loop-change-init c = (refl, altering_start _ _ _)

pub loop-change-smaller : goal.loop-change-smaller
loop-change-smaller c = change_less _ _ _ _ c.next_change.ensures.line _ c.in-Ok.ensures.value c.next_change.ensures.behind

pub loop-change-preserved : goal.loop-change-preserved
loop-change-preserved c =
    let same = c.loop-change.invariant.0 in
    let e = rw same at c.in-Ok.ensures.value in
    let f = rw same at c.next_change.ensures.behind in
    (c.next_change.ensures.line ∙ same, rw f (altering_more _ _ _ _ c.loop-change.invariant.1 _ _ e c.changed-next.ensures).1)

pub returns : goal.returns
returns c =
    altering_end _ _ _ _ c.loop-change.invariant.1 _ (rw c.loop-change.invariant.0 at (sym c.in_default.is ∙ c.next_change.ensures.value))
