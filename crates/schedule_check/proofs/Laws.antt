-- Check 14 of a schedule says what the words say. The modules named here hold the lemmas.
pub mod Check
pub mod Slots
use mathlib.Core.Path.{◌≡◌}
use mathlib.Core.Bool.{true, and-eq-true_iff}
use mathlib.Core.Logic.{◌↔◌}
use borrow.Author.Tests.{le-leb, eq-eqb, leb-true, eqb-true, not-true}
use Rattle.schedule_check.specs.declared.Schedule.{Schedule}
use Rattle.schedule_check.specs.Check.{schedule_passes}
use Rattle.schedule_check.specs.Words.{Listed}
use Rattle.schedule_check.proofs.Laws.Check.{all_well, none_bad, none_used}

-- Check 14 asks just whether every entry is as it should be.
pub passes_listed : (s : Schedule) → (schedule_passes s ≡ true) ↔ Listed s
unfolding schedule_passes
passes_listed s = (
  λ e. let a = (and-eq-true_iff _ _).0 e in
      let b = (and-eq-true_iff _ _).0 a.1 in
      let c = (and-eq-true_iff _ _).0 b.1 in
      let d = (and-eq-true_iff _ _).0 c.1 in
      all_well s (eqb-true _ _ a.0) (eqb-true _ _ b.0) (leb-true _ _ c.0) (not-true _ d.0) (not-true _ d.1),
  λ w. rw (eq-eqb _ _ w.offsets_long, eq-eqb _ _ w.periods_long, le-leb _ _ w.few, none_bad s w, none_used s w),
)
