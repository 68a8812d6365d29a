-- One law for each way that the judgement of 11, 12 and 13 ends.
use Prim.Native.Nat.{ℕ, ◌+◌, ◌≤◌, ◌<◌}
use mathlib.Core.Path.{◌≡◌, refl, sym, ◌∙◌}
use mathlib.Core.List.{List}
use borrow.Author.Tests.{lt-ltb, le-ltb, le-leb, lt-leb}
use native.Mathlib.Omega.{arith}
use Rattle.std.specs.Prelude.{Option, None, Some}
use Rattle.rulings.specs.Outcome.{accepted, refused, settled}
use Rattle.lists.specs.Search.{some_below}
use Rattle.lists.proofs.Laws.Search.{below_is, past_is}
use Rattle.site.specs.declared.Site.{Site}
use Rattle.site.specs.Sites.{with_schedule, used}
use Rattle.schedule.specs.Schedule.{first_crowded, offsets_assigned, periods_assigned, scheduled}
use Rattle.reservations.specs.Inner.{FaultsOf}
use Rattle.judgement.specs.Judge.{reserved, judge_of}
use Rattle.judgement.specs.Inner.{SettledAs}

module _ (s : Site) (before : List ℕ) where
  pub settled_crowded : (p : ℕ) → Some p ≡ some_below (used s.links + 1) (first_crowded s) → SettledAs s (refused 11 p) s before before
  unfolding judge_of settled with_schedule
  settled_crowded p e =
      let w = below_is _ _ p e in
      let l : first_crowded s ≤ used s.links = omega (arith, w.1) in
      record { judged = rw w.0 (simp (le-leb _ _ l)); loads = refl; rest = refl }

  module _ (os ps : List ℕ) (none : used s.links < first_crowded s) (a : os ≡ offsets_assigned s) (b : ps ≡ periods_assigned s)
      (over late : Option ℕ) (sums : List ℕ) (faults : FaultsOf (with_schedule s os ps) over late sums) where
    -- The judgement goes on with the site that has its schedule.
    on : reserved (with_schedule s os ps) ≡ judge_of s
    unfolding judge_of scheduled
    on = rw (a, b) (simp (lt-leb _ _ none))

    pub settled_over : (i : ℕ) → over ≡ Some i → SettledAs s (refused 12 (i + 1)) (with_schedule s os ps) before before
    unfolding reserved settled with_schedule
    settled_over i e =
        let w = below_is _ _ i (sym e ∙ faults.link) in
        record { judged = rw w.0 (simp (lt-ltb _ _ w.1)) ∙ on; loads = refl; rest = refl }

    module _ (pass : over ≡ None) where
      pub settled_late : (n : ℕ) → late ≡ Some n → SettledAs s (refused 13 n) (with_schedule s os ps) before before
      unfolding reserved settled with_schedule
      settled_late n e =
          let w = below_is _ _ n (sym e ∙ faults.flow) in
          record { judged = rw w.0 (simp (le-ltb _ _ (past_is _ _ (sym pass ∙ faults.link)), lt-ltb _ _ w.1)) ∙ on; loads = refl; rest = refl }

      pub settled_passed : late ≡ None → SettledAs s (accepted tt) (with_schedule s os ps) before sums
      unfolding reserved settled with_schedule
      settled_passed e = record {
        judged = (simp (le-ltb _ _ (past_is _ _ (sym pass ∙ faults.link)), le-ltb _ _ (past_is _ _ (sym e ∙ faults.flow)))) ∙ on;
        loads = faults.sums;
        rest = refl;
      }

-- A link that is over its capacity is one of the 63.
pub over_few : (s : Site) (over late : Option ℕ) (sums : List ℕ) → FaultsOf s over late sums → (i : ℕ) → over ≡ Some i → i < 63
unfolding used
over_few s over late sums faults i e = let w = below_is _ _ i (sym e ∙ faults.link) in omega (arith, w.0, w.1)
