-- What the definitions of the slot rule mean, in the order of 01's rules and for every factor from 2 up. The modules named here hold the lemmas.
pub mod Periods
pub mod Bases
pub mod Counting
pub mod Offsets
pub mod Room
pub mod Checks
use Prim.Native.Nat.{ℕ, ◌*◌, ◌^◌, ◌/◌, ◌%◌, ◌≤◌, ◌<◌}
use mathlib.Core.Path.{◌≡◌, refl, sym, ◌∙◌, ap}
use mathlib.Core.Bool.{Bool, true, false, not, false≢true}
use mathlib.Core.List.{List, [], ◌∷◌, map}
use mathlib.Core.Logic.{◌⊎◌, inl, inr, ◌↔◌}
use lib.ListN.{length, get_or}
use borrow.Author.Tests.{eq-eqb, eqb-true, le-leb, leb-true, not-true, not-false}
use native.Mathlib.Nat.{mul-le-mul_left, mod-eq_of_lt, mod-mod_of_dvd, dvd_of_mod-eq-zero, div-add-mod'}
use native.Mathlib.Omega.{arith}
use Rattle.lists.specs.Search.{last}
use Rattle.lists.specs.Lists.{total, largest, smallest}
use Rattle.slot_rule.specs.Rule.{exponent, period, sum, limit, fits, base, periods_of, earlier, taken, free_offset, sends, offsets_of}
use Rattle.rulings.specs.Outcome.{Outcome, accepted, refused}
use Rattle.slot_rule.specs.Assign.{assigned}
use Rattle.slot_rule.specs.Words.{Good, LargestFit, NoneFits, SendsIn, Once, Earlier, Meets, Free, SmallestFree}
use Rattle.rulings.proofs.Laws.Outcomes.{refused_not}
use Rattle.lists.proofs.Laws.Search.{lt_or_le, first_passes, first_before, first_is}
use Rattle.slot_rule.proofs.Laws.Periods.{powers, exponent_most, period_within, period_least}
use Rattle.slot_rule.proofs.Laws.Bases.{smallest_met, base_fits, base_period, base_none, limit_common, sum_shares, tried_hit}
use Rattle.slot_rule.proofs.Laws.Counting.{class_once}
use Rattle.slot_rule.proofs.Laws.Offsets.{Taker, earlier_why, earlier_below, earlier_same, earlier_le, taken_why, taken_by, Settled, offsets_settled}
use Rattle.slot_rule.proofs.Laws.Offsets.{settled_unique}
use Rattle.slot_rule.proofs.Laws.Checks.{passed_good, refuse_crowded, accept}
use Rattle.slot_rule.proofs.Laws.Room.{base_harmonic, base_roomy, periods_long, period_at}

module _ (f : ℕ) (two : 2 ≤ f) where
  -- Rule 2. The period is the largest base × factor^j not above the gap.
  pub period_largest : (b g : ℕ) → 1 ≤ b → b ≤ g
      → ((j : ℕ) × (period f b g ≡ b * f ^ j)) × (period f b g ≤ g) × ((j : ℕ) → b * f ^ j ≤ g → b * f ^ j ≤ period f b g)
  unfolding period
  period_largest b g one h =
      ((exponent f b g, refl), period_within f two b g h, λ j m. mul-le-mul_left b (powers f two j (exponent f b g) (exponent_most f two b g j one m)))

  -- Rule 3. With L = base × factor^J, a common multiple of the periods, a base fits just when the sum of L / period is at most L:
  -- so 1 / period, summed over the children, is no more than 1.
  pub fits_reciprocals : (b : ℕ) (gaps : List ℕ) → 1 ≤ b
      → ((i : ℕ) → i < length gaps → limit f b gaps / period f b (get_or gaps i 0) * period f b (get_or gaps i 0) ≡ limit f b gaps)
      × ((fits f b gaps ≡ true) ↔ (total (map (λ g. limit f b gaps / period f b g) gaps) ≤ limit f b gaps))
  unfolding fits
  fits_reciprocals b gaps one = (λ i l. limit_common f two b gaps i one l, rw (sum_shares f two b gaps one) (leb-true _ _, le-leb _ _))

  -- The outcome on lists that are as 1 and 5 ask.
  outcome_base : (gaps offsets periods : List ℕ) → Good gaps offsets periods → 1 ≤ base f gaps
      → (assigned f gaps offsets periods).0 ≡ accepted (base f gaps)
  outcome_base gaps offsets periods g h =
      sym (ap (λ (r : Outcome ℕ × List ℕ × List ℕ). r.0) (accept f gaps offsets periods g h _ _ _ refl refl refl))

  outcome_none : (gaps offsets periods : List ℕ) → Good gaps offsets periods → base f gaps ≡ 0 → (assigned f gaps offsets periods).0 ≡ refused 11 0
  outcome_none gaps offsets periods g z = sym (ap (λ (r : Outcome ℕ × List ℕ × List ℕ). r.0) (refuse_crowded f gaps offsets periods g z))

  -- Rules 1 and 4. Accepted with the base b just when the lists are as 1 and 5 ask and b is the largest fitting base.
  pub accepted_when : (gaps offsets periods : List ℕ) (b : ℕ)
      → ((assigned f gaps offsets periods).0 ≡ accepted b) ↔ (Good gaps offsets periods × LargestFit f gaps b)
  accepted_when gaps offsets periods b = (λ e. (good e, fit e (lt_or_le 0 (base f gaps))), back)
    where
      good : (assigned f gaps offsets periods).0 ≡ accepted b → Good gaps offsets periods
      good e = passed_good f gaps offsets periods (λ place q. refused_not _ q e) (λ place q. refused_not _ q e)

      fit : (assigned f gaps offsets periods).0 ≡ accepted b → (0 < base f gaps) ⊎ (base f gaps ≤ 0) → LargestFit f gaps b
      fit e (inl l) =
          let q : b ≡ base f gaps = cc (outcome_base gaps offsets periods (good e) l) in
          rw q (base_fits f two gaps l)
      fit e (inr m) = absurd (refused_not _ (outcome_none gaps offsets periods (good e) (omega arith)) e)

      back : Good gaps offsets periods × LargestFit f gaps b → (assigned f gaps offsets periods).0 ≡ accepted b
      back (g, (one, within, fits-b, none)) =
          let q : b ≡ base f gaps = tried_hit f two gaps b (record { within = within; none = none }) fits-b in
          rw q (outcome_base gaps offsets periods g (rw q at one))

  -- Rule 4. Refused with 11 just when the lists are as 1 and 5 ask and no base from 1 to the smallest gap fits.
  pub crowded_when : (gaps offsets periods : List ℕ)
      → ((assigned f gaps offsets periods).0 ≡ refused 11 0) ↔ (Good gaps offsets periods × NoneFits f gaps)
  crowded_when gaps offsets periods =
      (λ e. (good e, none e (lt_or_le 0 (base f gaps))), λ w. outcome_none gaps offsets periods w.0 ((base_none f two gaps).1 w.1))
    where
      other : (number place : ℕ) → (11 ≡ number → ⊥) → (assigned f gaps offsets periods).0 ≡ refused 11 0
          → (assigned f gaps offsets periods).0 ≡ refused number place → ⊥
      other number place n e q = n cc

      good : (assigned f gaps offsets periods).0 ≡ refused 11 0 → Good gaps offsets periods
      good e = passed_good f gaps offsets periods (λ place. other 1 place (omega arith) e) (λ place. other 5 place (omega arith) e)

      none : (assigned f gaps offsets periods).0 ≡ refused 11 0 → (0 < base f gaps) ⊎ (base f gaps ≤ 0) → NoneFits f gaps
      none e (inl l) = absurd (refused_not _ e (outcome_base gaps offsets periods (good e) l))
      none e (inr m) = (base_none f two gaps).0 (omega arith)

-- The tests say what the words say.
pub sends_when : (p o t : ℕ) → (sends p o t ≡ true) ↔ (t % p ≡ o)
unfolding sends
sends_when p o t = (eqb-true _ _, eq-eqb _ _)

pub earlier_when : (ps : List ℕ) (i k : ℕ) → (earlier ps (get_or ps i 0) i k ≡ true) ↔ Earlier ps i k
earlier_when ps i k = (earlier_why ps (get_or ps i 0) i k, go)
  where
    go : Earlier ps i k → earlier ps (get_or ps i 0) i k ≡ true
    go (inl l) = earlier_below ps (get_or ps i 0) i k l
    go (inr (e, l)) = earlier_same ps (get_or ps i 0) i k e l

pub taken_when : (ps os : List ℕ) (i t : ℕ)
    → (taken ps os (get_or ps i 0) i t ≡ true) ↔ ((k : ℕ) × (k < length ps) × Earlier ps i k × SendsIn ps os k t)
taken_when ps os i t = (λ e. out (taken_why ps os (get_or ps i 0) i t e), into)
  where
    out : Taker ps os (get_or ps i 0) i t
        → (k : ℕ) × (k < length ps) × Earlier ps i k × SendsIn ps os k t
    out (k, l, e, s) = (k, l, (earlier_when ps i k).0 e, (sends_when _ _ _).0 s)

    into : (k : ℕ) × (k < length ps) × Earlier ps i k × SendsIn ps os k t → taken ps os (get_or ps i 0) i t ≡ true
    into (k, l, e, s) = taken_by ps os (get_or ps i 0) i t k l ((earlier_when ps i k).1 e) ((sends_when _ _ _).1 s)

module _ (f : ℕ) (two : 2 ≤ f) (gaps : List ℕ) (h : 1 ≤ base f gaps) where
  abbrev ps : List ℕ
  ps = periods_of f gaps

  -- A slot of child i falls in the residue class of each child that goes before it as its offset does, since that child's period divides its own.
  same_class : (i k t : ℕ) → i < length ps → k < length ps → Earlier ps i k → t % get_or ps i 0 % get_or ps k 0 ≡ t % get_or ps k 0
  same_class i k t l m e =
      let d = (base_harmonic f two gaps h).divides k i m l (earlier_le ps (get_or ps i 0) i k ((earlier_when ps i k).1 e)) in
      mod-mod_of_dvd (get_or ps k 0) t (dvd_of_mod-eq-zero (get_or ps k 0) (omega (arith, div-add-mod' (get_or ps i 0) (get_or ps k 0))))

  -- So a child that sends in one slot of an offset of i sends in the slot that has the offset's own number.
  own_slot : (os : List ℕ) (i o : ℕ) → i < length ps → (t k : ℕ) → k < length ps → Earlier ps i k → t % get_or ps i 0 ≡ o → SendsIn ps os k t
      → SendsIn ps os k o
  own_slot os i o l t k n w s q = rw s at (same_class i k t l n w) ∙ q

  -- Rule 5. An offset is not taken, by the test, just when it is free.
  pub free_when : (os : List ℕ) (i o : ℕ) → i < length ps → o < get_or ps i 0 → (taken ps os (get_or ps i 0) i o ≡ false) ↔ Free ps os i o
  free_when os i o l m =
      (λ e t k n w s q. false≢true (sym e ∙ (taken_when ps os i o).1 (k, n, w, own_slot os i o l t k n w s q)), λ free. go free (taken ps os (get_or ps i 0) i o) refl)
    where
      hit : Free ps os i o → (k : ℕ) × (k < length ps) × Earlier ps i k × SendsIn ps os k o → ⊥
      hit free (k, n, w, q) = free o k n w (mod-eq_of_lt m) q

      go : Free ps os i o → (b : Bool) → taken ps os (get_or ps i 0) i o ≡ b → taken ps os (get_or ps i 0) i o ≡ false
      go free true e = absurd (hit free ((taken_when ps os i o).0 e))
      go free false e = e

  -- Rule 5. Whatever the others' offsets, a free one always exists.
  pub free_exists : (os : List ℕ) (i : ℕ) → i < length ps → (o : ℕ) × (o < get_or ps i 0) × Free ps os i o
  unfolding free_offset
  free_exists os i l =
      let r = (base_roomy f two gaps h).room os i l in
      let e = first_passes (λ o. not (taken ps os (get_or ps i 0) i o)) (get_or ps i 0) 0 (omega arith) in
      (free_offset ps os (get_or ps i 0) i, r, (free_when os i (free_offset ps os (get_or ps i 0) i) l r).0 (not-true _ e))

  abbrev os : List ℕ
  os = offsets_of f gaps

  settled : Settled ps os
  unfolding offsets_of
  settled = offsets_settled ps (base_harmonic f two gaps h).positive

  -- Both lists are as long as the gaps.
  pub lists_long : (length ps ≡ length gaps) × (length os ≡ length gaps)
  lists_long = (periods_long f two gaps h, settled.long ∙ periods_long f two gaps h)

  offset_at : (i : ℕ) → i < length ps → (get_or os i 0 ≡ free_offset ps os (get_or ps i 0) i) × (get_or os i 0 < get_or ps i 0)
  offset_at i l = let e = settled.each i l in (e, rw e ((base_roomy f two gaps h).room os i l))

  -- Rule 5. Each offset assigned is the smallest free one.
  pub offset_smallest : (i : ℕ) → i < length ps → SmallestFree ps os i (get_or os i 0)
  unfolding free_offset
  offset_smallest i l = (below, free, smaller)
    where
      below : get_or os i 0 < get_or ps i 0
      below = (offset_at i l).1

      not_taken : ℕ → Bool
      not_taken o = not (taken ps os (get_or ps i 0) i o)

      e : get_or os i 0 ≡ free_offset ps os (get_or ps i 0) i
      e = (offset_at i l).0

      free : Free ps os i (get_or os i 0)
      free = (free_when os i (get_or os i 0) l below).0 (rw e (not-true _ (first_passes not_taken (get_or ps i 0) 0 (omega (arith, below, e)))))

      at : (o : ℕ) → o < get_or os i 0 → (k : ℕ) × (k < length ps) × Earlier ps i k × SendsIn ps os k o
          → Meets ps os i o
      at o m (k, n, w, s) = (o, k, n, w, mod-eq_of_lt (omega (arith, below)), s)

      smaller : (o : ℕ) → o < get_or os i 0 → Meets ps os i o
      smaller o m = at o m ((taken_when ps os i o).0 (not-false _ (first_before not_taken (get_or ps i 0) 0 o (omega arith) (rw e at m))))

  -- Rule 5. No other list of offsets has that: the rule in words leaves no choice.
  pub offsets_unique : (us : List ℕ) → length us ≡ length ps → ((i : ℕ) → i < length ps → SmallestFree ps us i (get_or us i 0)) → us ≡ os
  unfolding free_offset
  offsets_unique us long each =
      settled_unique ps (base_harmonic f two gaps h).positive us os (record { long = long; each = λ i l. sym (is i l) }) settled
    where
      met : (i q : ℕ) → i < length ps → Meets ps us i q
          → not (taken ps us (get_or ps i 0) i q) ≡ false
      met i q l (t, k, m, w, s, z) = ap not ((taken_when ps us i q).1 (k, m, w, own_slot us i q l t k m w s z))

      is : (i : ℕ) → i < length ps → free_offset ps us (get_or ps i 0) i ≡ get_or us i 0
      is i l =
          let w = each i l in
          first_is (λ o. not (taken ps us (get_or ps i 0) i o)) (get_or ps i 0) 0 (get_or us i 0) (omega arith) (omega (arith, w.0))
          (ap not ((free_when us i (get_or us i 0) l w.0).1 w.1)) (λ q m. met i q l (w.2 q m))

  -- Rules 5 and 6. Two children never send in the same slot.
  pub never_together : (i k t : ℕ) → i < length ps → k < length ps → (i ≡ k → ⊥) → SendsIn ps os i t → SendsIn ps os k t → ⊥
  never_together i k t l m n s q = go (lt_or_le (get_or ps k 0) (get_or ps i 0)) (lt_or_le (get_or ps i 0) (get_or ps k 0)) (lt_or_le k i)
    where
      later_i : Earlier ps i k → ⊥
      later_i w = (offset_smallest i l).1 t k m w s q

      later_k : Earlier ps k i → ⊥
      later_k w = (offset_smallest k m).1 t i l w q s

      go : (get_or ps k 0 < get_or ps i 0) ⊎ (get_or ps i 0 ≤ get_or ps k 0) → (get_or ps i 0 < get_or ps k 0) ⊎ (get_or ps k 0 ≤ get_or ps i 0)
          → (k < i) ⊎ (i ≤ k) → ⊥
      go (inl a) b c = later_i (inl a)
      go (inr a) (inl b) c = later_k (inl b)
      go (inr a) (inr b) (inl c) = later_i (inr (omega arith, c))
      go (inr a) (inr b) (inr c) = later_k (inr (omega arith, omega arith))

  -- Rule 6. In every run of `period` slots, from any slot s on, a child sends exactly once.
  pub once_a_period : (i s : ℕ) → i < length ps → Once (get_or ps i 0) (get_or os i 0) s
  once_a_period i s l = class_once (get_or ps i 0) (get_or os i 0) s (offset_at i l).1

  -- The base is also the smallest period assigned.
  pub base_smallest : 1 ≤ length gaps
      → ((i : ℕ) → i < length ps → base f gaps ≤ get_or ps i 0) × ((i : ℕ) × (i < length ps) × (get_or ps i 0 ≡ base f gaps))
  base_smallest some = (λ i l. rw (period_at f two gaps h i l) (period_least f two (base f gaps) (get_or gaps i 0)), go (smallest_met gaps some))
    where
      go : (i : ℕ) × (i < length gaps) × (get_or gaps i 0 ≡ smallest gaps) → (i : ℕ) × (i < length ps) × (get_or ps i 0 ≡ base f gaps)
      go (i, m, e) =
          let l : i < length ps = rw (periods_long f two gaps h) m in (i, l, period_at f two gaps h i l ∙ rw e (base_period f two gaps h))

-- Fitting neither rises nor falls with the base: of four gaps of 4 the bases 1, 2 and 4 fit, and 3 does not.
pub fits_unordered : map (λ b. fits 2 b (4 ∷ 4 ∷ 4 ∷ 4 ∷ [])) (1 ∷ 2 ∷ 3 ∷ 4 ∷ []) ≡ true ∷ true ∷ false ∷ true ∷ []
unfolding fits sum limit exponent last total largest
fits_unordered = refl
