use mathlib.Core.Path.{sym, ◌∙◌}
use Prim.Native.Nat.{◌≤◌}
use lib.ListN.{length}
use native.Mathlib.Omega.{arith}
use Rattle.slot_rule.proofs.Laws.Bases.{smallest_within, tried_start, tried_less, tried_hit, tried_end}
use Rattle.bases.proofs.Laws.{base_some, base_nothing}
use Rattle.bases.proofs.base_of.Goals as goal

pub loop-base-init : goal.loop-base-init
loop-base-init c = tried_start _ c.if-factor-lt2.false _ _ c.span_of-span.ensures.0

pub fits-requires : goal.fits-requires
fits-requires c =
    let tried = c.loop-base.invariant in
    let some : 1 ≤ length c.args.gaps.now = grind arith in (
      record { two = c.if-factor-lt2.false; one = omega arith; within = λ i l. omega (arith, tried.within, smallest_within c.args.gaps.now i l) },
      c.span_of-span.ensures.1,
      some,
      c.if-gaps-gt63.false,
    )

pub returns-then-fits : goal.returns-then-fits
returns-then-fits c =
    let two = c.if-factor-lt2.false in
    let some : 1 ≤ length c.args.gaps.now = grind arith in
    base_some _ _ two some c.if-gaps-gt63.false _ (omega arith) (tried_hit _ two _ _ c.loop-base.invariant (sym c.fits.ensures ∙ c.if-fits.true))

pub loop-base-preserved : goal.loop-base-preserved
loop-base-preserved c = tried_less _ c.if-factor-lt2.false _ _ c.loop-base.invariant (sym c.fits.ensures ∙ c.if-fits.false)

pub returns : goal.returns
returns c =
    let two = c.if-factor-lt2.false in
    let some : 1 ≤ length c.args.gaps.now = grind arith in
    base_nothing _ _ two some c.if-gaps-gt63.false (tried_end _ two _ _ _ c.loop-base.invariant c.span_of-span.ensures.0 c.loop-base-test.false)
