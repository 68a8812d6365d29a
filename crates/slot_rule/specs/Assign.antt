-- The slot rule called alone: what it answers and what the two borrowed lists then hold, for every input.
use Rattle.std.specs.Prelude.{ℕ, Bool, not, cond, ◌||◌, List, eqb, ltb, length, get_or}
use Rattle.rulings.specs.Outcome.{Outcome, accepted, refused}
use Rattle.lists.specs.Search.{first}
use Rattle.slot_rule.specs.Rule.{base, periods_of, offsets_of}

-- 01's limit on wanted gaps, 1 to 1,024: the one at index i is outside.
unfoldable pub bad_gap : List ℕ → ℕ → Bool
bad_gap gaps i = eqb (get_or gaps i 0) 0 || ltb 1024 (get_or gaps i 0)

-- The index of the first gap outside its limits, and the number of gaps where there is none.
unfoldable pub first_bad : List ℕ → ℕ
first_bad gaps = first (bad_gap gaps) (length gaps) 0

-- The outcome, the offsets and the periods. The first check that fails refuses, and then both lists are as they were:
-- 1 for a list that is not as long as the gaps, 5 for a count outside 1 to 63, 5 for the first gap outside its limits, 11 where no base fits.
unfoldable pub assigned : ℕ → List ℕ → List ℕ → List ℕ → Outcome ℕ × List ℕ × List ℕ
assigned f gaps offsets periods =
    cond (not (eqb (length offsets) (length gaps))) (refused 1 0, offsets, periods)
    (cond (not (eqb (length periods) (length gaps))) (refused 1 0, offsets, periods)
    (cond (eqb (length gaps) 0) (refused 5 0, offsets, periods)
    (cond (ltb 63 (length gaps)) (refused 5 0, offsets, periods)
    (cond (ltb (first_bad gaps) (length gaps)) (refused 5 (first_bad gaps), offsets, periods)
    (cond (eqb (base f gaps) 0) (refused 11 0, offsets, periods)
    (accepted (base f gaps), offsets_of f gaps, periods_of f gaps))))))
