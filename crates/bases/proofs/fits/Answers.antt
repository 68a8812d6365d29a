use mathlib.Core.Path.{◌∙◌}
use native.Mathlib.Omega.{arith}
use Rattle.slot_rule.specs.Rule.{fits}
use Rattle.lists.proofs.Laws.Lists.{summed_more, summed_end}
use Rattle.slot_rule.proofs.Laws.Bases.{largest_above, limit_largest, sum_powers}
use Rattle.bases.proofs.fits.Goals as goal

pub rise_of-limit-requires : goal.rise_of-limit-requires
rise_of-limit-requires c =
    let allowed = c.requires.0 in
    let some = c.requires.2 in
    let low = allowed.within 0 some in
    let high = largest_above c.args.gaps.now 0 some in
    (allowed.two, allowed.one, omega (arith, c.requires.1))

pub loop-gap-preserved : goal.loop-gap-preserved
loop-gap-preserved c =
    summed_more _ _ _ _ _ _ c.loop-gap.invariant c.loop-gap-test.true (c.from-sum.ensures ∙ c.share.ensures) (omega arith)

pub returns : goal.returns
unfolding fits
returns c =
    let allowed = c.requires.0 in
    let most = c.requires.1 in
    let rise = c.rise_of-limit.ensures in
    let sum = sum_powers _ allowed.two _ _ _ _ allowed.one (rise.1 ∙ rw most) (summed_end _ _ _ _ _ c.loop-gap.invariant c.loop-gap-test.false) in
    rw (sum, c.from.ensures, rise.0, most, ← limit_largest _ allowed.two _ _ allowed.one)
