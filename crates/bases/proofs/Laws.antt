-- Where the answers to anything asked are those of the slot rule.
use Prim.Native.Nat.{ℕ, suc, ◌+◌, ◌^◌, ◌≤◌, ◌<◌, min, max}
use mathlib.Core.Path.{◌≡◌, ap}
use mathlib.Core.Bool.{◌||◌, true, false}
use mathlib.Core.List.{List, [], ◌∷◌}
use lib.Dec.{eqb, ltb}
use lib.ListN.{length, get_or, drop, drop_of_length-le}
use lib.Seq.{drop-cons}
use borrow.Author.Tests.{le-ltb, ne_eqb}
use native.Mathlib.Nat.{mul-le-mul_right}
use native.Mathlib.Numerals.{add-one}
use native.Mathlib.Omega.{arith}
use Rattle.std.specs.Prelude.{Option, Some, None, MatchOption, IfSome, IsSomeAnd}
use Rattle.std.proofs.Common.{nat_cmp, is_lt}
use Rattle.std.proofs.lemmas.Grind.{common_steps}
use Rattle.std.specs.List.{AllWithin, HoldsAt}
use Rattle.lists.specs.Lists.{least, smallest, largest}
use Rattle.lists.specs.Search.{some_below, some_of}
use Rattle.lists.proofs.Laws.Search.{some_when, some_is, none_is, below_when, past_when, first_is, first_none}
use Rattle.slot_rule.specs.Rule.{period, base}
use Rattle.slot_rule.specs.Assign.{bad_gap, first_bad}
use Rattle.slot_rule.proofs.Laws.Bases.{smallest_within, smallest_met}
use Rattle.slot_rule.proofs.Laws.Periods.{Grown, period_least}
use Rattle.bases.specs.Inner.{period_or_none, base_or_none}

pub period_asked : (f b g : ℕ) → 2 ≤ f → 1 ≤ b → b ≤ g → period_or_none f b g ≡ period f b g
unfolding period_or_none
period_asked f b g two one l = let n : b ≡ 0 → ⊥ = omega arith in simp (le-ltb _ _ two, ne_eqb _ _ n, le-ltb _ _ l)

pub base_asked : (f : ℕ) (gaps : List ℕ) → 2 ≤ f → 1 ≤ length gaps → length gaps ≤ 63 → base_or_none f gaps ≡ base f gaps
unfolding base_or_none
base_asked f gaps two some few = let n : length gaps ≡ 0 → ⊥ = omega arith in simp (le-ltb _ _ two, ne_eqb _ _ n, le-ltb _ _ few)

-- A period is never 0.
pub period_some : (f b g : ℕ) → 2 ≤ f → 1 ≤ b → b ≤ g → Some (period f b g) ≡ some_of (period_or_none f b g)
period_some f b g two one l = rw (period_asked f b g two one l) (some_when _ (omega (arith, period_least f two b g)))

-- The power that stands beside a number that the loop for a period reaches is at most that number.
pub grown_power : (f b g p x : ℕ) → 1 ≤ b → Grown (λ e. f ^ e) f b g p x → x ≤ p
grown_power f b g p x one w = omega (arith, w.power, w.beside, mul-le-mul_right (f ^ w.exponent) one)

-- The smallest and the largest number, of which the first i entries are in.
pub record Spanned (xs : List ℕ) (i low high : ℕ) : Type 0 where
  pub upto : i ≤ length xs
  pub lower : least low (drop i xs) ≡ smallest xs
  pub upper : max high (largest (drop i xs)) ≡ largest xs

-- Of a list that is not empty: with the first number for both, before the first entry.
pub spanned_start : (xs : List ℕ) → 1 ≤ length xs → Spanned xs 0 (get_or xs 0 0) (get_or xs 0 0)
unfolding smallest largest least
spanned_start [] l = absurd (omega arith)
spanned_start (x ∷ xs) l = record { upto = omega arith; lower = let e : min x x ≡ x = omega arith in ap (λ (n : ℕ). least n xs) e; upper = omega arith }

module _ (xs : List ℕ) (i low high : ℕ) (s : Spanned xs i low high) where
  pub spanned_more : (low' high' : ℕ) → i < length xs → low' ≡ min low (get_or xs i 0) → high' ≡ max high (get_or xs i 0)
      → Spanned xs (i + 1) low' high'
  unfolding least largest
  spanned_more low' high' l p q =
      record { upto = omega arith; lower = rw (p, add-one) (rw rest at s.lower); upper = rw (q, add-one) (omega (arith, rw rest at s.upper)) }
    where
      rest : drop i xs ≡ get_or xs i 0 ∷ drop (suc i) xs
      rest = drop-cons xs i 0 l

  pub spanned_end : length xs ≤ i → (low ≡ smallest xs) × (high ≡ largest xs)
  unfolding least largest
  spanned_end l =
      let none = drop_of_length-le xs l in
      let upper = rw none at s.upper in
      (rw none at s.lower, omega arith)

-- A base from 1 up, or none.
pub base_some : (f : ℕ) (gaps : List ℕ) → 2 ≤ f → 1 ≤ length gaps → length gaps ≤ 63 → (b : ℕ) → 1 ≤ b → b ≡ base f gaps → Some b ≡ some_of (base_or_none f gaps)
base_some f gaps two some few b one e = rw (base_asked f gaps two some few, ← e) (some_when b one)

pub base_nothing : (f : ℕ) (gaps : List ℕ) → 2 ≤ f → 1 ≤ length gaps → length gaps ≤ 63 → 0 ≡ base f gaps → None ≡ some_of (base_or_none f gaps)
base_nothing f gaps two some few e = rw (base_asked f gaps two some few, ← e)

-- What an answer says of the base.
pub base_is : (f : ℕ) (gaps : List ℕ) (b : ℕ) → 2 ≤ f → 1 ≤ length gaps → length gaps ≤ 63 → Some b ≡ some_of (base_or_none f gaps) → (b ≡ base f gaps) × (1 ≤ base f gaps)
base_is f gaps b two some few e = rw (base_asked f gaps two some few) at (some_is _ b e)

pub nothing_is : (f : ℕ) (gaps : List ℕ) → 2 ≤ f → 1 ≤ length gaps → length gaps ≤ 63 → None ≡ some_of (base_or_none f gaps) → base f gaps ≡ 0
nothing_is f gaps two some few e = rw (base_asked f gaps two some few) at (none_is _ e)

-- The first gap of which the test says that it is bad.
pub bad_is : (gaps : List ℕ) (r : Option ℕ) (Yes No : ℕ → Type 0)
    → ((g : ℕ) → Yes g → eqb g 0 || ltb 1024 g ≡ true) → ((g : ℕ) → No g → eqb g 0 || ltb 1024 g ≡ false)
    → MatchOption r (AllWithin No gaps 0 (length gaps)) (λ i. (i < length gaps) × HoldsAt Yes gaps i × AllWithin No gaps 0 i)
    → r ≡ some_below (length gaps) (first_bad gaps)
unfolding first_bad bad_gap
bad_is gaps None Yes No is not w = past_when _ _ ((first_none (bad_gap gaps) (length gaps)).1 (λ k l. not _ (w k 0 (omega arith) l)))
bad_is gaps (Some i) Yes No is not w =
    let e = first_is (bad_gap gaps) (length gaps) 0 i (omega arith) (omega (arith, w.0)) (is _ (w.1 0)) (λ m l. not _ (w.2 m 0 (omega arith) l)) in
    rw e (below_when _ _ w.0)

at_least : (m x : ℕ) → is_lt (nat_cmp x m) ≡ false → m ≤ x
at_least m x e = grind (arith, common_steps)

-- The smallest number, from what `min` says of a list that it went over whole.
module _ (xs : List ℕ) (n : ℕ) (at : ℕ → Option ℕ) (long : n ≡ length xs) (each : (k : ℕ) → k < n → at k ≡ Some (get_or xs k 0)) where
  abbrev Meets : ℕ → Type 0
  Meets m = (k : ℕ) × (k < n) × IsSomeAnd (at k) (λ x. x ≡ m)

  met : (m : ℕ) → Meets m → (k : ℕ) × (k < length xs) × (get_or xs k 0 ≡ m)
  met m (k, l, e) = (k, omega arith, rw (each k l) at e)

  pub smallest_is : (r : Option ℕ) → MatchOption r (n ≡ 0) (λ m. Meets m × ((k : ℕ) → IfSome (at k) (λ x. is_lt (nat_cmp x m) ≡ false)))
      → MatchOption r (length xs ≡ 0) (λ m. (1 ≤ length xs) × (m ≡ smallest xs))
  smallest_is None e = omega arith
  smallest_is (Some m) (w, low) =
      let here = met m w in
      let least = smallest_met xs (omega arith) in (
        omega arith,
        omega (arith, smallest_within xs here.0 here.1, here.2, at_least m (get_or xs least.0 0) (rw (each least.0 (omega arith)) at (low least.0)), least.2),
      )
