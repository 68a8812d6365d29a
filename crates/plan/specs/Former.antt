-- A reading as it was before 02, U2, with 12 and 13 judged by the wanted gaps. No promise cites this: the laws of proofs/Laws.antt say by it what U2 changed.
use Rattle.std.specs.Prelude.{ℕ, ◌+◌, ◌*◌, ◌≤◌, ◌<◌, ◌≡◌, Bool, true, cond, ◌&&◌, List, ltb, leb, get_or}
use Rattle.rulings.specs.Outcome.{Outcome, accepted, refused}
use Rattle.lists.specs.Search.{first}
use Rattle.site.specs.declared.Site.{Site}
use Rattle.site.specs.Sites.{used, live}
use Rattle.tree.specs.Tree.{of_link, has}
use Rattle.reservations.specs.Reservations.{route_of, along}
use Rattle.lists.specs.Lists.{sum_to}
use Rattle.schedule.specs.Schedule.{first_crowded, scheduled}
use Rattle.plan_commands.specs.Commands.{decode}

-- 01, Reservations: the width of flow n on the link of node m, rate × wanted gap, and the sum of these widths.
unfoldable pub former_width : Site → ℕ → ℕ → ℕ
former_width s m n = cond (live s n && has m (route_of s n)) (get_or s.rates n 0 * of_link s.gaps m) 0

unfoldable pub former_load : Site → ℕ → ℕ
former_load s m = sum_to (former_width s m) 64

-- 01, 12: the link at index i has widths above its capacity, and the first such index.
unfoldable pub former_over : Site → ℕ → Bool
former_over s i = ltb (get_or s.capacities i 0) (former_load s (i + 1))

unfoldable pub first_former_over : Site → ℕ
first_former_over s = first (former_over s) (used s.links) 0

-- 01, 13: the wanted gaps on a live flow's route sum to more than its deadline, and the first such flow.
unfoldable pub former_late : Site → ℕ → Bool
former_late s n = live s n && ltb (get_or s.deadlines n 0) (along s.gaps (route_of s n))

unfoldable pub first_former_late : Site → ℕ
first_former_late s = first (former_late s) 64 0

-- 01, after END: 11, then 12, then 13.
unfoldable pub former_reserved : Site → Outcome Site
former_reserved s =
    cond (ltb (first_former_over s) (used s.links)) (refused 12 (first_former_over s + 1))
    (cond (ltb (first_former_late s) 64) (refused 13 (first_former_late s))
    (accepted s))

unfoldable pub former_judge_of : Site → Outcome Site
former_judge_of s = cond (leb (first_crowded s) (used s.links)) (refused 11 (first_crowded s)) (former_reserved (scheduled s))

unfoldable pub former_form : Outcome Site → Outcome Site
former_form (accepted s) = former_judge_of s
former_form (refused number place) = refused number place

-- What a plan's bytes read to. The form is the one of now, in which END may stand alone (02, U3).
unfoldable pub former_read : List ℕ → Outcome Site
former_read bytes = former_form (decode bytes)

-- In words: by wanted gaps, no link has widths whose sum is above its capacity.
pub record FormerlyCarried (s : Site) : Type 0 where
  pub within : (m : ℕ) → 1 ≤ m → m ≤ s.links → former_load s m ≤ of_link s.capacities m

-- The wanted gaps on every live flow's route sum to at most its deadline.
pub record FormerlyPunctual (s : Site) : Type 0 where
  pub within : (n : ℕ) → n < 64 → live s n ≡ true → along s.gaps (route_of s n) ≤ get_or s.deadlines n 0
