-- The four ways that a judgement ends.
use Prim.Native.Nat.{ℕ, ◌+◌, ◌≤◌, ◌<◌}
use mathlib.Core.Path.{◌≡◌, refl}
use mathlib.Core.Bool.{Bool, true, false}
use mathlib.Core.List.{List}
use lib.Dec.{ltb, leb}
use borrow.Author.Tests.{ltb-true, ltb-false, leb-true, leb-false}
use Rattle.rulings.specs.Outcome.{refused, accepted}
use Rattle.site.specs.declared.Site.{Site}
use Rattle.site.specs.Sites.{with_schedule, used}
use Rattle.schedule.specs.Schedule.{gaps_under, rank, assigned_under, base_under, crowded, first_crowded, entry_assigned, offsets_assigned, periods_assigned, scheduled}
use Rattle.reservations.specs.Reservations.{first_over, first_late}
use Rattle.judgement.specs.Judge.{reserved, judge_of}

-- What comes in as a schedule plays no part.
pub scheduled_bare : (s : Site) (os ps : List ℕ) → scheduled (with_schedule s os ps) ≡ scheduled s
unfolding scheduled with_schedule gaps_under rank assigned_under offsets_assigned periods_assigned entry_assigned
scheduled_bare s os ps = refl

pub judge_bare : (s : Site) (os ps : List ℕ) → judge_of (with_schedule s os ps) ≡ judge_of s
unfolding judge_of with_schedule first_crowded crowded base_under assigned_under gaps_under
judge_bare s os ps = rw (scheduled_bare s os ps)

-- The four ways that the judgement ends, by what its searches find.
pub data Way (s : Site) : Type 0 where
  crowds : first_crowded s ≤ used s.links → judge_of s ≡ refused 11 (first_crowded s) → Way s
  fills : used s.links < first_crowded s → first_over (scheduled s) < used s.links → judge_of s ≡ refused 12 (first_over (scheduled s) + 1) → Way s
  delays : used s.links < first_crowded s → used s.links ≤ first_over (scheduled s) → first_late (scheduled s) < 64
      → judge_of s ≡ refused 13 (first_late (scheduled s)) → Way s
  passes : used s.links < first_crowded s → used s.links ≤ first_over (scheduled s) → 64 ≤ first_late (scheduled s)
      → judge_of s ≡ accepted (scheduled s) → Way s

pub judge_way : (s : Site) → Way s
unfolding judge_of reserved scheduled with_schedule
judge_way s =
    go (leb (first_crowded s) (used s.links)) refl (ltb (first_over (scheduled s)) (used s.links)) refl (ltb (first_late (scheduled s)) 64) refl
  where
    go : (a : Bool) → leb (first_crowded s) (used s.links) ≡ a
        → (b : Bool) → ltb (first_over (scheduled s)) (used s.links) ≡ b
        → (c : Bool) → ltb (first_late (scheduled s)) 64 ≡ c → Way s
    go true x b y c z = crowds (leb-true _ _ x) (simp x)
    go false x true y c z = fills (leb-false _ _ x) (ltb-true _ _ y) (simp (x, y))
    go false x false y true z = delays (leb-false _ _ x) (ltb-false _ _ y) (ltb-true _ _ z) (simp (x, y, z))
    go false x false y false z = passes (leb-false _ _ x) (ltb-false _ _ y) (ltb-false _ _ z) (simp (x, y, z))
