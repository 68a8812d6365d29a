-- Right because each return is that of the first failing check, and past them all the base fits, so that each child finds a free offset; nothing is written before.
use Prim.Native.Nat.{ℕ, ◌≤◌}
use mathlib.Core.Path.{◌≡◌, ◌∙◌, ap}
use mathlib.Core.List.{List}
use lib.ListN.{length}
use native.Mathlib.Omega.{arith}
use Rattle.std.specs.Prelude.{None}
use Rattle.lists.specs.Search.{some_below}
use Rattle.lists.proofs.Laws.Search.{past_is}
use Rattle.slot_rule.specs.Assign.{first_bad}
use Rattle.slot_rule.specs.Rule.{periods_of, offsets_for, offsets_of}
use Rattle.slot_rule.specs.Words.{Good}
use Rattle.slot_rule.proofs.Laws.Bases.{smallest_within, base_fits}
use Rattle.slot_rule.proofs.Laws.Room.{periods_long, base_roomy}
use Rattle.slot_rule.proofs.Laws.Checks.{gap_limits, accept}
use Rattle.bases.proofs.Laws.{base_is}
use Rattle.pinwheel.proofs.assign.Goals as goal

two : 2 ≤ 2
two = omega arith

-- What the checks before the base leave.
good : (gaps offsets periods : List ℕ) → length offsets ≡ length gaps → length periods ≡ length gaps → (length gaps ≡ 0 → ⊥) → length gaps ≤ 63
    → None ≡ some_below (length gaps) (first_bad gaps) → Good gaps offsets periods
good gaps offsets periods o p n few e =
    record { offsets_long = o; periods_long = p; some = omega arith; few = few; limits = λ i l. gap_limits gaps i (omega (arith, past_is _ _ e)) }

pub fill-requires : goal.fill-requires
fill-requires c =
    let found = base_is _ _ _ two (omega arith) c.if-n-gt63.false c.in-Some-base_of.ensures in
    let low = (base_fits 2 two c.args.gaps.now found.1).1 in
    (record { two = two; one = omega arith; within = λ i l. omega (arith, smallest_within c.args.gaps.now i l) }, omega arith)

pub fill-requires-2 : goal.fill-requires-2
unfolding periods_of
fill-requires-2 c =
    let found = base_is _ _ _ two (omega arith) c.if-n-gt63.false c.in-Some-base_of.ensures in
    let made : c.fill.new.periods ≡ periods_of 2 c.args.gaps.now = c.fill.ensures ∙ rw found.0 in
    let long = periods_long 2 two c.args.gaps.now found.1 in
    (omega (arith, ap length made), rw (made, long) c.if-n-gt63.false, rw made (base_roomy 2 two c.args.gaps.now found.1))

pub returns : goal.returns
unfolding offsets_of periods_of
returns c =
    let good = good c.args.gaps.now c.args.offsets.now c.args.periods.now (omega arith) (omega arith) c.if-n-eq0.false c.if-n-gt63.false c.in_default.ensures in
    let found = base_is _ _ _ two (omega arith) c.if-n-gt63.false c.in-Some-base_of.ensures in
    let made : c.fill.new.periods ≡ periods_of 2 c.args.gaps.now = c.fill.ensures ∙ rw found.0 in
    accept 2 _ _ _ good found.1 _ _ _ found.0 (c.fill-2.ensures ∙ ap offsets_for made) made
