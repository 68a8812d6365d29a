-- 01, 19 and 20: the checks of a slot's arrivals, and their order.
use Rattle.std.specs.Prelude.{ℕ, ◌+◌, Bool, not, cond, ◌&&◌, List, eqb, ltb, length, get_or}
use Rattle.rulings.specs.Outcome.{Ruling, accepted, refused}
use Rattle.lists.specs.Search.{first}
use Rattle.lists.specs.Lists.{total}
use Rattle.site.specs.declared.Site.{Site}
use Rattle.site.specs.Sites.{live}
use Rattle.counters.specs.Blocks.{cells_of}

-- 01, 19: flow n is live, and its nine cells and its arrival sum to more than 4,294,967,295. The lowest such number, 64 where there is none.
unfoldable pub overflows : Site → List ℕ → List ℕ → ℕ → Bool
overflows s counters arrivals n = live s n && ltb 4294967295 (total (cells_of n counters) + get_or arrivals n 0)

unfoldable pub first_overflow : Site → List ℕ → List ℕ → ℕ
first_overflow s counters arrivals = first (overflows s counters arrivals) 64 0

-- 01, 20: there are arrivals for number n, which is not live. The lowest such number, 64 where there is none.
unfoldable pub unexpected : Site → List ℕ → ℕ → Bool
unexpected s arrivals n = not (live s n) && ltb 0 (get_or arrivals n 0)

unfoldable pub first_unexpected : Site → List ℕ → ℕ
first_unexpected s arrivals = first (unexpected s arrivals) 64 0

-- 01, the order of the checks of a slot's arrivals: 19, 20. All of 19 comes before any of 20.
unfoldable pub arrivals_ruling : Site → List ℕ → List ℕ → Ruling
arrivals_ruling s counters arrivals =
    cond (ltb (first_overflow s counters arrivals) 64) (refused 19 (first_overflow s counters arrivals))
    (cond (ltb (first_unexpected s arrivals) 64) (refused 20 (first_unexpected s arrivals))
    (accepted tt))

-- Those of a slot on a site whose check 14 is not asked: 1 for both lists, 19, 20.
unfoldable pub advance_ruling : Site → List ℕ → List ℕ → Ruling
advance_ruling s counters arrivals =
    cond (not (eqb (length arrivals) 64)) (refused 1 0)
    (cond (not (eqb (length counters) 576)) (refused 1 0)
    (arrivals_ruling s counters arrivals))
