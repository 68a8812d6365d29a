-- What the checks of a slot's arrivals sum and find.
use Prim.Native.Nat.{ℕ, ◌+◌, ◌-◌, ◌*◌, ◌≤◌, ◌<◌}
use mathlib.Core.Path.{◌≡◌, refl}
use mathlib.Core.Bool.{true, false}
use mathlib.Core.List.{List, [], ◌∷◌}
use mathlib.Core.Logic.{⊎_elim}
use lib.ListN.{length, get_or, take, drop}
use borrow.Author.Tests.{lt-ltb, le-ltb, eq-eqb, ne_eqb}
use native.Mathlib.Omega.{arith}
use Rattle.std.specs.Prelude.{Some, None}
use Rattle.std.specs.List.{sum}
use Rattle.std.proofs.lemmas.Bool.Decides.{nat_tests}
use Rattle.std.proofs.lemmas.List.Elements.{All-from_get_or}
use Rattle.std.proofs.lemmas.List.Sums.{sum_by-cons, sum_by-le}
use Rattle.rulings.specs.Outcome.{accepted}
use Rattle.lists.specs.Lists.{total}
use Rattle.lists.specs.Search.{some_below}
use Rattle.lists.proofs.Laws.Search.{lt_or_le, first_is, first_none, below_when, past_when, below_is, past_is}
use Rattle.site.specs.declared.Site.{Site}
use Rattle.site.specs.Sites.{live}
use Rattle.site.proofs.Laws.Flows.{Left, none_left}
use Rattle.counters.specs.Blocks.{cells_of}
use Rattle.counters.proofs.Laws.{block_lent}
use Rattle.slot_checks.specs.Checks.{overflows, first_overflow, unexpected, first_unexpected, arrivals_ruling}

-- The library's sum.
pub summed : (xs : List ℕ) → total xs ≡ sum xs
unfolding total
summed [] = refl
summed (x ∷ xs) = rw (sum_by-cons (λ y. y) x xs, summed xs)

pub few_summed : (xs : List ℕ) → ((k : ℕ) → get_or xs k 0 ≤ 4294967295) → sum xs ≤ length xs * 4294967295
few_summed xs few = sum_by-le (λ x. x) 4294967295 xs (All-from_get_or (λ x. x ≤ 4294967295) xs 0 (λ k l. few k))

-- 19 of a number whose cells are lent on, and 20: the lowest number is found, or there is none.
module _ (s : Site) (xs : List ℕ) (n : ℕ) where
  pub overflow_found : (cs : List ℕ) → n < 64 → get_or s.states n 0 ≡ 1
      → 4294967295 < total (take (9 * n + 9 - 9 * n) (drop (9 * n) cs)) + get_or xs n 0
      → ((k : ℕ) → k < n → overflows s cs xs k ≡ false) → Some n ≡ some_below 64 (first_overflow s cs xs)
  unfolding first_overflow overflows live cells_of
  overflow_found cs l on high none =
      let here : overflows s cs xs n ≡ true = rw (eq-eqb _ _ on, ← block_lent 9 n cs) (lt-ltb _ _ high) in
      rw (first_is (overflows s cs xs) 64 0 n (omega arith) (omega arith) here none) (below_when 64 n l)

  -- 19 of a number that has room for its sum, or is not live.
  pub overflow_no : (cs : List ℕ) → get_or s.states n 0 ≡ 1 → total (take (9 * n + 9 - 9 * n) (drop (9 * n) cs)) + get_or xs n 0 ≤ 4294967295
      → overflows s cs xs n ≡ false
  unfolding overflows live cells_of
  overflow_no cs on low = rw (eq-eqb _ _ on, ← block_lent 9 n cs) (le-ltb _ _ low)

  pub overflow_dead : (cs : List ℕ) → (get_or s.states n 0 ≡ 1 → ⊥) → overflows s cs xs n ≡ false
  unfolding overflows live
  overflow_dead cs off = rw (ne_eqb _ _ off)

  pub unexpected_found : n < 64 → (get_or s.states n 0 ≡ 1 → ⊥) → 0 < get_or xs n 0
      → ((k : ℕ) → k < n → unexpected s xs k ≡ false) → Some n ≡ some_below 64 (first_unexpected s xs)
  unfolding first_unexpected unexpected live
  unexpected_found l off some none =
      let here : unexpected s xs n ≡ true = rw (ne_eqb _ _ off, lt-ltb _ _ some) in
      rw (first_is (unexpected s xs) 64 0 n (omega arith) (omega arith) here none) (below_when 64 n l)

  -- No number from n on is live.
  pub overflow_none : (cs : List ℕ) → ((k : ℕ) → n ≤ k → k < 64 → live s k ≡ false) → ((k : ℕ) → k < n → overflows s cs xs k ≡ false)
      → None ≡ some_below 64 (first_overflow s cs xs)
  unfolding first_overflow overflows
  overflow_none cs dead none =
      past_when 64 _ ((first_none (overflows s cs xs) 64).1 (λ k m. ⊎_elim (λ l. none k l) (λ l. rw (dead k l m)) (lt_or_le k n)))

  -- No live flow is left to meet.
  pub overflow_left : (cs : List ℕ) (left : ℕ) → Left s n left → left ≡ 0 → ((k : ℕ) → k < n → overflows s cs xs k ≡ false)
      → None ≡ some_below 64 (first_overflow s cs xs)
  overflow_left cs left w z = overflow_none cs (none_left s n left w z)

  pub unexpected_none : 64 ≤ n → ((k : ℕ) → k < n → unexpected s xs k ≡ false) → None ≡ some_below 64 (first_unexpected s xs)
  unfolding first_unexpected
  unexpected_none l none = past_when 64 _ ((first_none (unexpected s xs) 64).1 (λ k m. none k (omega arith)))

-- The answers, by what the searches find.
pub arrivals_pass : (s : Site) (cs xs : List ℕ) → 64 ≤ first_overflow s cs xs → 64 ≤ first_unexpected s xs → accepted tt ≡ arrivals_ruling s cs xs
unfolding arrivals_ruling
arrivals_pass s cs xs within known = rw (le-ltb _ _ within, le-ltb _ _ known)

-- What the functions of src/lib.rt are proved by.
pub ruleset overflow_rules = (overflow_found, overflow_left, block_lent, nat_tests)

pub ruleset unexpected_rules = (unexpected_found, unexpected_none, nat_tests)

pub ruleset arrivals_rules = (below_is, past_is, nat_tests)
