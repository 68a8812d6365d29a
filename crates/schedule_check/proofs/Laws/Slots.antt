-- The test of 22 says what the words say.
use Prim.Native.Nat.{ℕ, ◌≤◌, ◌<◌}
use mathlib.Core.Path.{◌≡◌, sym, ◌∙◌}
use mathlib.Core.Bool.{true, false, or-true}
use mathlib.Core.Logic.{⊎_elim, ◌↔◌}
use lib.Dec.{leb}
use borrow.Author.Tests.{lt-ltb, le-ltb, le-leb, lt-leb, ltb-false, leb-false}
use native.Mathlib.Omega.{arith}
use Rattle.lists.proofs.Laws.Search.{lt_or_le}
use Rattle.rulings.proofs.Laws.Choices.{neither}
use Rattle.schedule_check.specs.Schedules.{bad_slots}
use Rattle.schedule_check.specs.Words.{SlotsWithin}

-- 22.
module _ (offset period : ℕ) where
  pub slots_many : 1024 < period → bad_slots offset period ≡ true
  unfolding bad_slots
  slots_many l = simp (lt-ltb _ _ l, or-true)

  -- No offset is below a period of 0, so that this holds of each.
  pub slots_late : period ≤ offset → bad_slots offset period ≡ true
  unfolding bad_slots
  slots_late l = simp (le-leb _ _ l, or-true)

  pub slots_when : (bad_slots offset period ≡ false) ↔ SlotsWithin offset period
  unfolding bad_slots
  slots_when = (
    λ e. let a = neither _ _ e in
        let b = neither _ _ a.1 in
        record { period_some = ltb-false _ _ a.0; period_most = ltb-false _ _ b.0; offset_below = leb-false _ _ b.1 },
    λ w. simp (le-ltb _ _ w.period_some, le-ltb _ _ w.period_most, lt-leb _ _ w.offset_below),
  )

  pub slots_well : period ≤ 1024 → offset < period → bad_slots offset period ≡ false
  slots_well l m = slots_when.1 (record { period_some = omega arith; period_most = l; offset_below = m })

  pub slots_rest : period ≤ 1024 → leb period offset ≡ bad_slots offset period
  slots_rest l = ⊎_elim (λ m. lt-leb _ _ m ∙ sym (slots_well l m)) (λ m. le-leb _ _ m ∙ sym (slots_late m)) (lt_or_le offset period)
