use Prim.Native.Nat.{min, max}
use mathlib.Core.Path.{◌≡◌}
use lib.ListN.{get_or}
use native.Mathlib.Omega.{arith}
use Rattle.bases.proofs.Laws.{spanned_start, spanned_more, spanned_end}
use Rattle.bases.proofs.span_of.Goals as goal
use Rattle.bases.proofs.span_of.Goals.{else-gap-low, else-high-gap, then-gap-low, then-high-gap}

pub loop-gap-init : goal.loop-gap-init
loop-gap-init c = spanned_start _ c.requires

pub loop-gap-preserved : goal.loop-gap-preserved
loop-gap-preserved c =
    let loop = c.loop-gap in
    let gap = get_or c.args.gaps.now loop.gap-index 0 in
    let low : c.if-gap-low.low ≡ min loop.low gap = (elim c.if-gap-low.branch [ then-gap-low w ↦ omega arith | else-gap-low w ↦ omega arith ]) in
    let high : c.if-high-gap.high ≡ max loop.high gap = (elim c.if-high-gap.branch [ then-high-gap w ↦ omega arith | else-high-gap w ↦ omega arith ]) in
    spanned_more _ _ _ _ loop.invariant _ _ c.loop-gap-test.true low high

pub returns : goal.returns
returns c = spanned_end _ _ _ _ c.loop-gap.invariant c.loop-gap-test.false
