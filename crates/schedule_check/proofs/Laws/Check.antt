-- The tests of 14, one law for each answer, and what they say of all entries.
use Prim.Native.Nat.{ℕ, zero, suc, ◌+◌, ◌-◌, ◌≤◌, ◌<◌}
use mathlib.Core.Path.{◌≡◌, refl, sym, ◌∙◌, ap}
use mathlib.Core.Bool.{Bool, true, false, cond, not, ◌||◌, or-true, false≢true, and-eq-true_iff}
use mathlib.Core.List.{List}
use mathlib.Core.Logic.{⊎_elim}
use lib.Dec.{eqb}
use lib.ListN.{length, get_or, take, drop, length-drop, drop_of_length-le, get_or-eq_default}
use lib.Seq.{drop-cons, take_all}
use native.Mathlib.Numerals.{add-one}
use Rattle.std.proofs.lemmas.Slice.Zip.{length-zip, get_or-zip}
use Rattle.std.specs.List.{list_any, zip}
use borrow.Author.Tests.{le-leb, eq-eqb, eqb-true, not-false}
use native.Mathlib.Omega.{arith}
use Rattle.lists.specs.Search.{any}
use Rattle.lists.proofs.Laws.Search.{lt_or_le, any_hit, any_miss, any_end, any_none, any_some}
use Rattle.schedule_check.specs.declared.Schedule.{Schedule}
use Rattle.schedule_check.specs.Schedules.{bad_slots}
use Rattle.schedule_check.specs.Check.{in_use, bad_at, used_at, schedule_passes}
use Rattle.schedule_check.specs.Words.{NoLink, Listed}
use Rattle.schedule_check.proofs.Laws.Slots.{slots_when}

-- Entries past the last link.
module _ (offset period : ℕ) where
  unused : in_use offset period ≡ false → NoLink offset period
  unfolding in_use
  unused e =
      let w = (and-eq-true_iff (eqb offset 0) _).0 (not-false _ e) in
      record { offset_none = eqb-true _ _ w.0; period_none = eqb-true _ _ w.1 }

  no_use : NoLink offset period → in_use offset period ≡ false
  unfolding in_use
  no_use w = simp (w.offset_none, w.period_none)

-- A walk along two lists side by side asks the same as a search over their indices.
module _ (f : ℕ → ℕ → Bool) where
  abbrev pair_test : ℕ × ℕ → Bool
  pair_test p = f p.0 p.1

  module _ (xs ys : List ℕ) where
    abbrev at_index : ℕ → Bool
    at_index i = f (get_or xs i 0) (get_or ys i 0)

    pub any_pairs : (r k : ℕ) → k + r ≤ length xs → k + r ≤ length ys → any at_index r k ≡ list_any pair_test (take r (drop k (zip xs ys)))
    unfolding any
    any_pairs zero k l m = refl
    any_pairs (suc r) k l m =
        let a : k < length xs = omega arith in
        let b : k < length ys = omega arith in
        let both : k < length (zip xs ys) = omega (arith, length-zip xs ys) in
        rw (drop-cons (zip xs ys) k (0, 0) both, get_or-zip xs ys k (0, 0) a b, ← add-one k)
        (go (at_index k) (any_pairs r (k + 1) (omega arith) (omega arith)))
      where
        go : (t : Bool) → any at_index r (k + 1) ≡ list_any pair_test (take r (drop (k + 1) (zip xs ys)))
            → cond t true (any at_index r (k + 1)) ≡ t || list_any pair_test (take r (drop (k + 1) (zip xs ys)))
        go true ih = refl
        go false ih = ih

-- A loop that looks at every number below n: `seen` says whether one before i had the test, and `whole` whether one has it at all.
pub record Seen (p : ℕ → Bool) (n i : ℕ) (seen whole : Bool) : Type 0 where
  pub are : whole ≡ seen || any p (n - i) i

module _ (p : ℕ → Bool) (n i : ℕ) (seen whole : Bool) (w : Seen p n i seen whole) where
  or_none : (t : Bool) → t || false ≡ t
  or_none true = refl
  or_none false = refl

  seen_hit : i < n → p i ≡ true → Seen p n (i + 1) true whole
  seen_hit l e = record { are = w.are ∙ ap (λ (t : Bool). seen || t) (any_hit p n i l e) ∙ or-true seen }

  seen_miss : i < n → p i ≡ false → Seen p n (i + 1) seen whole
  seen_miss l e = record { are = w.are ∙ ap (λ (t : Bool). seen || t) (any_miss p n i l e) }

  -- t is the test of i.
  pub seen_next : i < n → (t : Bool) → t ≡ p i → Seen p n (i + 1) (seen || t) whole
  seen_next l true e = rw (or-true seen) (seen_hit l (sym e))
  seen_next l false e = rw (or_none seen) (seen_miss l (sym e))

  pub seen_end : n ≤ i → seen ≡ whole
  seen_end l = sym (w.are ∙ ap (λ (t : Bool). seen || t) (any_end p n i l) ∙ or_none seen)

-- No number has the test where none can be found that has.
any_absent : (p : ℕ → Bool) (r k : ℕ) → ((m : ℕ) → k ≤ m → m < k + r → p m ≡ false) → any p r k ≡ false
any_absent p r k none = go (any p r k) refl
  where
    go : (t : Bool) → any p r k ≡ t → t ≡ false
    go true e = let v = any_some p r k e in absurd (false≢true (sym (none v.0 v.1 v.2) ∙ v.3))
    go false e = refl

module _ (s : Schedule) where
  abbrev bad : ℕ → Bool
  bad = bad_at s.offsets s.periods

  abbrev used : ℕ → Bool
  used = used_at s.offsets s.periods

  -- The two walks of the check on lists of 63 entries, and its answers.
  module _ (offsets_long : length s.offsets ≡ 63) (periods_long : length s.periods ≡ 63) where
    pub slots_walked : s.links ≤ 63 → list_any (λ p. bad_slots p.0 p.1) (take s.links (zip s.offsets s.periods)) ≡ any bad s.links 0
    slots_walked few = sym (any_pairs bad_slots s.offsets s.periods s.links 0 (omega arith) (omega arith))

    pub rest_walked : list_any (λ p. in_use p.0 p.1) (drop s.links (zip s.offsets s.periods)) ≡ any used (63 - s.links) s.links
    rest_walked =
        let long : length (drop s.links (zip s.offsets s.periods)) ≤ 63 - s.links =
        omega (arith, length-drop s.links (zip s.offsets s.periods), length-zip s.offsets s.periods) in
        ⊎_elim
        (λ (l : 63 < s.links). ap (list_any (pair_test in_use)) (drop_of_length-le (zip s.offsets s.periods) {i = s.links} (omega (arith, length-zip s.offsets s.periods)))
        ∙ sym (any_end used 63 s.links (omega arith)))
        (λ (few : s.links ≤ 63). sym (any_pairs in_use s.offsets s.periods (63 - s.links) s.links (omega arith) (omega arith)
        ∙ ap (list_any (pair_test in_use)) (take_all (63 - s.links) (drop s.links (zip s.offsets s.periods)) long)))
        (lt_or_le 63 s.links)

    -- r stands for what the first walk finds.
    module _ (few : s.links ≤ 63) (r : Bool) (slots : r ≡ list_any (λ p. bad_slots p.0 p.1) (take s.links (zip s.offsets s.periods))) where
      pub passes_bad : r ≡ true → false ≡ schedule_passes s
      unfolding schedule_passes
      passes_bad e = rw (eq-eqb _ _ offsets_long, eq-eqb _ _ periods_long, le-leb _ _ few, ← slots_walked few, ← slots, e)

      pub passes_rest : r ≡ false → (u : Bool) → u ≡ list_any (λ p. in_use p.0 p.1) (drop s.links (zip s.offsets s.periods)) → not u ≡ schedule_passes s
      unfolding schedule_passes
      passes_rest e u rest =
          rw (eq-eqb _ _ offsets_long, eq-eqb _ _ periods_long, le-leb _ _ few, ← slots_walked few, ← rest_walked, ← slots, ← rest, e)

  -- What they say of all entries.
  pub all_well : length s.offsets ≡ 63 → length s.periods ≡ 63 → s.links ≤ 63 → any bad s.links 0 ≡ false → any used (63 - s.links) s.links ≡ false
      → Listed s
  all_well o p few slots rest = record {
    offsets_long = o;
    periods_long = p;
    few = few;
    slots = λ i l. (slots_when _ _).0 (any_none bad s.links 0 slots i (omega arith) (omega arith));
    spare = λ i l. ⊎_elim (λ m. unused _ _ (any_none used (63 - s.links) s.links rest i l (omega arith)))
        (λ m. record { offset_none = beyond s.offsets i (omega arith); period_none = beyond s.periods i (omega arith) }) (lt_or_le i 63);
  }
    where
      beyond : (xs : List ℕ) (i : ℕ) → length xs ≤ i → get_or xs i 0 ≡ 0
      beyond xs i l = get_or-eq_default xs 0 {n = i} l

  pub none_bad : Listed s → any bad s.links 0 ≡ false
  none_bad w = any_absent bad s.links 0 (λ i a b. (slots_when _ _).1 (w.slots i (omega arith)))

  pub none_used : Listed s → any used (63 - s.links) s.links ≡ false
  none_used w = any_absent used (63 - s.links) s.links (λ i a b. no_use _ _ (w.spare i a))
