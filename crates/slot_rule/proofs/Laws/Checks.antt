-- The checks of the slot rule called alone, one law for each way that it ends.
use Prim.Native.Nat.{ℕ, ◌≤◌, ◌<◌}
use mathlib.Core.Path.{◌≡◌, refl, sym, ◌∙◌, ap}
use mathlib.Core.Bool.{Bool, true, false, cond, ◌||◌, false≢true}
use mathlib.Core.List.{List}
use mathlib.Core.Logic.{◌⊎◌, inl, inr}
use lib.Dec.{eqb, ltb}
use lib.ListN.{length, get_or}
use borrow.Author.Tests.{lt-ltb, le-ltb, eq-eqb, ne_eqb, eqb-false, ltb-false}
use native.Mathlib.Decide.{ℕ_discrete}
use native.Mathlib.Omega.{arith}
use Rattle.slot_rule.specs.Rule.{base, periods_of, offsets_of}
use Rattle.rulings.specs.Outcome.{Outcome, accepted, refused}
use Rattle.slot_rule.specs.Assign.{bad_gap, first_bad, assigned}
use Rattle.slot_rule.specs.Words.{InLimits, Good}
use Rattle.lists.proofs.Laws.Search.{lt_or_le, first_before, first_passes}

-- A gap before the first bad one is within its limits, and the first bad one is not.
pub gap_limits : (gaps : List ℕ) (i : ℕ) → i < first_bad gaps → InLimits (get_or gaps i 0)
unfolding first_bad bad_gap
gap_limits gaps i l = go (eqb (get_or gaps i 0) 0) refl (first_before (bad_gap gaps) (length gaps) 0 i (omega arith) l)
  where
    go : (t : Bool) → eqb (get_or gaps i 0) 0 ≡ t → t || ltb 1024 (get_or gaps i 0) ≡ false → InLimits (get_or gaps i 0)
    go true e q = absurd (false≢true (sym q))
    go false e q = let n : get_or gaps i 0 ≡ 0 → ⊥ = eqb-false _ _ e in (omega arith, ltb-false _ _ q)

pub bad_limits : (gaps : List ℕ) → first_bad gaps < length gaps → InLimits (get_or gaps (first_bad gaps) 0) → ⊥
unfolding first_bad bad_gap
bad_limits gaps l (a, b) =
    let n : get_or gaps (first_bad gaps) 0 ≡ 0 → ⊥ = omega arith in
    false≢true (sym (simp (ne_eqb _ _ n, le-ltb _ _ b)) ∙ first_passes (bad_gap gaps) (length gaps) 0 (omega arith))

module _ (f : ℕ) (gaps offsets periods : List ℕ) where
  pub refuse_offsets : (length offsets ≡ length gaps → ⊥) → (refused 1 0, offsets, periods) ≡ assigned f gaps offsets periods
  unfolding assigned
  refuse_offsets n = simp (ne_eqb _ _ n)

  pub refuse_periods : length offsets ≡ length gaps → (length periods ≡ length gaps → ⊥)
      → (refused 1 0, offsets, periods) ≡ assigned f gaps offsets periods
  unfolding assigned
  refuse_periods e n = simp (eq-eqb _ _ e, ne_eqb _ _ n)

  pub refuse_none : length offsets ≡ length gaps → length periods ≡ length gaps → length gaps ≡ 0
      → (refused 5 0, offsets, periods) ≡ assigned f gaps offsets periods
  unfolding assigned
  refuse_none e q z = simp (eq-eqb _ _ e, eq-eqb _ _ q, eq-eqb _ _ z)

  pub refuse_many : length offsets ≡ length gaps → length periods ≡ length gaps → 63 < length gaps
      → (refused 5 0, offsets, periods) ≡ assigned f gaps offsets periods
  unfolding assigned
  refuse_many e q l = let n : length gaps ≡ 0 → ⊥ = omega arith in simp (eq-eqb _ _ e, eq-eqb _ _ q, ne_eqb _ _ n, lt-ltb _ _ l)

  pub refuse_gap : length offsets ≡ length gaps → length periods ≡ length gaps → (length gaps ≡ 0 → ⊥) → length gaps ≤ 63 → (bad : ℕ)
      → bad ≡ first_bad gaps → bad < length gaps
      → (refused 5 bad, offsets, periods) ≡ assigned f gaps offsets periods
  unfolding assigned
  refuse_gap e q n m bad b l = rw b (simp (eq-eqb _ _ e, eq-eqb _ _ q, ne_eqb _ _ n, le-ltb _ _ m, lt-ltb _ _ (rw b at l)))

  no_bad : ((i : ℕ) → i < length gaps → InLimits (get_or gaps i 0))
      → (first_bad gaps < length gaps) ⊎ (length gaps ≤ first_bad gaps)
      → length gaps ≤ first_bad gaps
  no_bad each (inl l) = absurd (bad_limits gaps l (each (first_bad gaps) l))
  no_bad each (inr m) = m

  -- Lists that pass: only the base is left to judge.
  pub good_assigned : Good gaps offsets periods
      → assigned f gaps offsets periods ≡ cond (eqb (base f gaps) 0) (refused 11 0, offsets, periods) (accepted (base f gaps), offsets_of f gaps, periods_of f gaps)
  unfolding assigned
  good_assigned g =
      let m : length gaps ≤ first_bad gaps = no_bad g.limits (lt_or_le (first_bad gaps) (length gaps)) in
      let n : length gaps ≡ 0 → ⊥ = omega (arith, g.some) in
      simp (eq-eqb _ _ g.offsets_long, eq-eqb _ _ g.periods_long, ne_eqb _ _ n, le-ltb _ _ g.few, le-ltb _ _ m)

  pub refuse_crowded : Good gaps offsets periods → base f gaps ≡ 0 → (refused 11 0, offsets, periods) ≡ assigned f gaps offsets periods
  refuse_crowded g z = sym (good_assigned g ∙ simp (eq-eqb _ _ z))

  pub accept : Good gaps offsets periods → 1 ≤ base f gaps → (b : ℕ) (os ps : List ℕ) → b ≡ base f gaps → os ≡ offsets_of f gaps
      → ps ≡ periods_of f gaps
      → (accepted b, os, ps) ≡ assigned f gaps offsets periods
  accept g h b os ps e o p = let n : base f gaps ≡ 0 → ⊥ = omega arith in rw (e, o, p) (sym (good_assigned g ∙ simp (ne_eqb _ _ n)))

  -- The other way round: what is refused neither by 1 nor by 5 is as they ask.
  pub passed_good : ((place : ℕ) → (assigned f gaps offsets periods).0 ≡ refused 1 place → ⊥)
      → ((place : ℕ) → (assigned f gaps offsets periods).0 ≡ refused 5 place → ⊥)
      → Good gaps offsets periods
  passed_good one five = offsets_same (ℕ_discrete (length offsets) (length gaps))
    where
      told : (number place : ℕ) → (refused number place, offsets, periods) ≡ assigned f gaps offsets periods
          → (assigned f gaps offsets periods).0 ≡ refused number place
      told number place q = sym (ap (λ (r : Outcome ℕ × List ℕ × List ℕ). r.0) q)

      in_limits : length offsets ≡ length gaps → length periods ≡ length gaps → (length gaps ≡ 0 → ⊥) → length gaps ≤ 63
          → (first_bad gaps < length gaps) ⊎ (length gaps ≤ first_bad gaps) → Good gaps offsets periods
      in_limits o p n m (inl l) = absurd (five (first_bad gaps) (told 5 (first_bad gaps) (refuse_gap o p n m (first_bad gaps) refl l)))
      in_limits o p n m (inr l) =
          record { offsets_long = o; periods_long = p; some = omega arith; few = m; limits = λ i k. gap_limits gaps i (omega arith) }

      few : length offsets ≡ length gaps → length periods ≡ length gaps → (length gaps ≡ 0 → ⊥) → (63 < length gaps) ⊎ (length gaps ≤ 63)
          → Good gaps offsets periods
      few o p n (inl l) = absurd (five 0 (told 5 0 (refuse_many o p l)))
      few o p n (inr m) = in_limits o p n m (lt_or_le (first_bad gaps) (length gaps))

      some : length offsets ≡ length gaps → length periods ≡ length gaps → Dec (length gaps ≡ 0) → Good gaps offsets periods
      some o p (yes z) = absurd (five 0 (told 5 0 (refuse_none o p z)))
      some o p (no n) = few o p n (lt_or_le 63 (length gaps))

      periods_same : length offsets ≡ length gaps → Dec (length periods ≡ length gaps) → Good gaps offsets periods
      periods_same o (yes p) = some o p (ℕ_discrete (length gaps) 0)
      periods_same o (no n) = absurd (one 0 (told 1 0 (refuse_periods o n)))

      offsets_same : Dec (length offsets ≡ length gaps) → Good gaps offsets periods
      offsets_same (yes o) = periods_same o (ℕ_discrete (length periods) (length gaps))
      offsets_same (no n) = absurd (one 0 (told 1 0 (refuse_offsets n)))
