-- The assignment of offsets, for any list of periods: when a child goes before another, what is taken, and that the offsets are the only ones of which
-- each is the smallest free one.
use Prim.Native.Nat.{ℕ, zero, suc, ◌+◌, ◌≤◌, ◌<◌}
use mathlib.Core.Path.{◌≡◌, refl, sym, ◌∙◌, ap}
use mathlib.Core.Bool.{Bool, true, false, not, ◌&&◌, false≢true, and-eq-true_iff}
use mathlib.Core.List.{List}
use mathlib.Core.Logic.{◌⊎◌, inl, inr}
use lib.Dec.{eqb}
use lib.ListN.{length, get_or, set, replicate, length-set, length-replicate}
use lib.Seq.{get_or-set_same, get_or-set_other, ext_get_or}
use borrow.Author.Tests.{lt-ltb, le-ltb, eq-eqb, ltb-true, eqb-true, eqb-false}
use native.Mathlib.Nat.{eq-or-lt_of_le}
use native.Mathlib.Omega.{arith}
use Rattle.lists.specs.Lists.{largest}
use Rattle.slot_rule.specs.Rule.{sends, earlier, taken, free_offset, turn, level, levels, offsets_for}
use Rattle.slot_rule.specs.Words.{Precedes, Earlier}
use Rattle.lists.proofs.Laws.Lists.{Positive}
use Rattle.lists.proofs.Laws.Search.{lt_or_le, any_some, any_at, any_ext, first_ext}
use Rattle.slot_rule.proofs.Laws.Bases.{largest_above}

-- A child that goes before one of period p and index i and sends in slot t, by the tests.
abbrev pub Taker : List ℕ → List ℕ → ℕ → ℕ → ℕ → Type 0
Taker ps os p i t = (k : ℕ) × (k < length ps) × (earlier ps p i k ≡ true) × (sends (get_or ps k 0) (get_or os k 0) t ≡ true)

module _ (ps : List ℕ) (p i k : ℕ) where
  -- The order of assignment in words.
  pub earlier_why : earlier ps p i k ≡ true → Precedes ps p i k
  unfolding earlier
  earlier_why e =
      elim (lt_or_le (get_or ps k 0) p)
      [ inl l ↦ inl l | inr m ↦ let w = (and-eq-true_iff _ _).0 (simp (le-ltb _ _ m) at e) in inr (eqb-true _ _ w.0, ltb-true _ _ w.1) ]

  pub earlier_below : get_or ps k 0 < p → earlier ps p i k ≡ true
  unfolding earlier
  earlier_below l = simp (lt-ltb _ _ l)

  pub earlier_same : get_or ps k 0 ≡ p → k < i → earlier ps p i k ≡ true
  unfolding earlier
  earlier_same e l = let n : p ≤ get_or ps k 0 = omega arith in simp (le-ltb _ _ n, eq-eqb _ _ e, lt-ltb _ _ l)

pub earlier_le : (ps : List ℕ) (p i k : ℕ) → earlier ps p i k ≡ true → get_or ps k 0 ≤ p
earlier_le ps p i k e = elim (earlier_why ps p i k e) [ inl l ↦ omega arith | inr w ↦ omega arith ]

-- From one turn to the next: child i alone joins those that go before, and only where it has the period.
module _ (ps : List ℕ) (p i k : ℕ) where
  pub earlier_more : earlier ps p i k ≡ true → earlier ps p (i + 1) k ≡ true
  earlier_more e = go (earlier_why ps p i k e)
    where
      go : Precedes ps p i k → earlier ps p (i + 1) k ≡ true
      go (inl l) = earlier_below ps p (i + 1) k l
      go (inr (q, l)) = earlier_same ps p (i + 1) k q (omega arith)

  pub earlier_joins : earlier ps p (i + 1) k ≡ true → (earlier ps p i k ≡ true) ⊎ ((k ≡ i) × (get_or ps k 0 ≡ p))
  earlier_joins e = go (earlier_why ps p (i + 1) k e)
    where
      at : get_or ps k 0 ≡ p → (suc k ≡ i + 1) ⊎ (suc k < i + 1) → (earlier ps p i k ≡ true) ⊎ ((k ≡ i) × (get_or ps k 0 ≡ p))
      at q (inl s) = inr (omega arith, q)
      at q (inr l) = inl (earlier_same ps p i k q (omega arith))

      go : Precedes ps p (i + 1) k → (earlier ps p i k ≡ true) ⊎ ((k ≡ i) × (get_or ps k 0 ≡ p))
      go (inl l) = inl (earlier_below ps p i k l)
      go (inr (q, l)) = at q (eq-or-lt_of_le l)

  pub earlier_back : ((k ≡ i) × (get_or ps k 0 ≡ p) → ⊥) → earlier ps p (i + 1) k ≡ true → earlier ps p i k ≡ true
  earlier_back none e = elim (earlier_joins e) [ inl w ↦ w | inr w ↦ absurd (none w) ]

-- No child goes before itself, nor before one that goes before it.
pub earlier_self : (ps : List ℕ) (i : ℕ) → earlier ps (get_or ps i 0) i i ≡ false
unfolding earlier
earlier_self ps i = simp (le-ltb (get_or ps i 0) (get_or ps i 0) (omega arith), le-ltb i i (omega arith), eq-eqb (get_or ps i 0) (get_or ps i 0) refl)

earlier_not : (ps : List ℕ) (i k : ℕ) → earlier ps (get_or ps i 0) i k ≡ true → earlier ps (get_or ps k 0) k i ≡ true → ⊥
earlier_not ps i k w h = go (earlier_why ps (get_or ps i 0) i k w) (earlier_why ps (get_or ps k 0) k i h)
  where
    go : Earlier ps i k
        → Earlier ps k i → ⊥
    go (inl a) (inl b) = omega arith
    go (inl a) (inr b) = omega arith
    go (inr a) (inl b) = omega arith
    go (inr a) (inr b) = omega arith

-- What is taken, in words: a child that goes before sends in that slot.
module _ (ps os : List ℕ) (p i t : ℕ) where
  pub taken_why : taken ps os p i t ≡ true → Taker ps os p i t
  unfolding taken
  taken_why e = go (any_some _ (length ps) 0 e)
    where
      go : (k : ℕ) × (0 ≤ k) × (k < 0 + length ps) × (earlier ps p i k && sends (get_or ps k 0) (get_or os k 0) t ≡ true)
          → Taker ps os p i t
      go (k, lo, hi, q) = let w = (and-eq-true_iff _ _).0 q in (k, omega arith, w.0, w.1)

  pub taken_by : (k : ℕ) → k < length ps → earlier ps p i k ≡ true → sends (get_or ps k 0) (get_or os k 0) t ≡ true → taken ps os p i t ≡ true
  unfolding taken
  taken_by k l e q = any_at _ (length ps) 0 k (omega arith) (omega arith) (rw (e, q))

-- The smallest free offset depends on those that go before alone.
module _ (ps os us : List ℕ) (p i : ℕ) (agree : (k : ℕ) → k < length ps → earlier ps p i k ≡ true → get_or os k 0 ≡ get_or us k 0) where
  taken_agrees : (t : ℕ) → taken ps os p i t ≡ taken ps us p i t
  unfolding taken
  taken_agrees t = any_ext _ _ (length ps) 0 (λ k lo hi. go k (omega arith) (earlier ps p i k) refl)
    where
      go : (k : ℕ) → k < length ps → (b : Bool) → earlier ps p i k ≡ b
          → earlier ps p i k && sends (get_or ps k 0) (get_or os k 0) t ≡ earlier ps p i k && sends (get_or ps k 0) (get_or us k 0) t
      go k l true e = rw (agree k l e)
      go k l false e = rw e

  free_agrees : free_offset ps os p i ≡ free_offset ps us p i
  unfolding free_offset
  free_agrees = first_ext _ _ p 0 (λ o. ap not (taken_agrees o))

-- What each turn keeps, and each rise of the period, holds when all have had their turns.
module _ (ps : List ℕ) (P : ℕ → ℕ → List ℕ → Type 0)
    (step : (p i : ℕ) (os : List ℕ) → i < length ps → P p i os → P p (i + 1) (turn ps p i os))
    (rise : (p : ℕ) (os : List ℕ) → P p (length ps) os → P (p + 1) 0 os) where
  level_keeps : (p r i : ℕ) (os : List ℕ) → i + r ≡ length ps → P p i os → P p (length ps) (level ps p r i os)
  unfolding level
  level_keeps p zero i os e h = let q : i ≡ length ps = omega arith in rw (← q) h
  level_keeps p (suc r) i os e h = level_keeps p r (i + 1) (turn ps p i os) (omega arith) (step p i os (omega arith) h)

  levels_keep : (r p : ℕ) (os : List ℕ) → P p 0 os → P (p + r) 0 (levels ps r p os)
  unfolding levels
  levels_keep zero p os h = let q : p + 0 ≡ p = omega arith in rw q h
  levels_keep (suc r) p os h =
      let q : p + suc r ≡ p + 1 + r = omega arith in
      rw q (levels_keep r (p + 1) (level ps p (length ps) 0 os) (rise p _ (level_keeps p (length ps) 0 os (omega arith) h)))

-- After the last period every child has gone before.
all_earlier : (ps : List ℕ) (k : ℕ) → k < length ps → earlier ps (1 + largest ps) 0 k ≡ true
all_earlier ps k l = let h = largest_above ps k l in earlier_below ps (1 + largest ps) 0 k (omega arith)

none_earlier : (ps : List ℕ) → Positive ps → (k : ℕ) → k < length ps → earlier ps 1 0 k ≡ true → ⊥
none_earlier ps positive k l e = go (earlier_why ps 1 0 k e) (positive k l)
  where
    go : Precedes ps 1 0 k → 1 ≤ get_or ps k 0 → ⊥
    go (inl a) b = omega arith
    go (inr a) b = omega arith

earlier_rise : (ps : List ℕ) (p k : ℕ) → k < length ps → earlier ps (p + 1) 0 k ≡ true → earlier ps p (length ps) k ≡ true
earlier_rise ps p k l e = go (earlier_why ps (p + 1) 0 k e)
  where
    at : (suc (get_or ps k 0) ≡ p + 1) ⊎ (suc (get_or ps k 0) < p + 1) → earlier ps p (length ps) k ≡ true
    at (inl q) = earlier_same ps p (length ps) k (omega arith) l
    at (inr m) = earlier_below ps p (length ps) k (omega arith)

    go : Precedes ps (p + 1) 0 k → earlier ps p (length ps) k ≡ true
    go (inl m) = at (eq-or-lt_of_le m)
    go (inr m) = absurd (omega arith)

-- Each offset is the smallest free one: rule 5 as a condition on a list of offsets.
pub record Settled (ps os : List ℕ) : Type 0 where
  pub long : length os ≡ length ps
  pub each : (k : ℕ) → k < length ps → get_or os k 0 ≡ free_offset ps os (get_or ps k 0) k

-- It holds of those that have had their turn, and goes on holding of them.
record Sofar (ps : List ℕ) (p i : ℕ) (os : List ℕ) : Type 0 where
  long : length os ≡ length ps
  each : (k : ℕ) → k < length ps → earlier ps p i k ≡ true → get_or os k 0 ≡ free_offset ps os (get_or ps k 0) k

module _ (ps : List ℕ) where
  -- What child i is given moves neither those before it nor its own.
  sofar_set : (i : ℕ) (os : List ℕ) → i < length ps → Sofar ps (get_or ps i 0) i os
      → Sofar ps (get_or ps i 0) (i + 1) (set os i (free_offset ps os (get_or ps i 0) i))
  sofar_set i os l s = record { long = simp length-set s.long; each = λ k m w. at k m (earlier_joins ps (get_or ps i 0) i k w) }
    where
      after : List ℕ
      after = set os i (free_offset ps os (get_or ps i 0) i)

      still : (k : ℕ) → (earlier ps (get_or ps k 0) k i ≡ true → ⊥) → free_offset ps after (get_or ps k 0) k ≡ free_offset ps os (get_or ps k 0) k
      still k not = free_agrees ps after os (get_or ps k 0) k (λ m h q. get_or-set_other os i m _ 0 (λ z. not (rw z at q)))

      self : earlier ps (get_or ps i 0) i i ≡ true → ⊥
      self e = false≢true (sym (earlier_self ps i) ∙ e)

      at : (k : ℕ) → k < length ps → (earlier ps (get_or ps i 0) i k ≡ true) ⊎ ((k ≡ i) × (get_or ps k 0 ≡ get_or ps i 0))
          → get_or after k 0 ≡ free_offset ps after (get_or ps k 0) k
      at k m (inl w) = get_or-set_other os i k _ 0 (λ z. self (rw z at w)) ∙ s.each k m w ∙ sym (still k (earlier_not ps i k w))
      at k m (inr (z, q)) = rw z (get_or-set_same os i _ 0 (omega (arith, s.long)) ∙ sym (still i self))

  sofar_turn : (p i : ℕ) (os : List ℕ) → i < length ps → Sofar ps p i os → Sofar ps p (i + 1) (turn ps p i os)
  unfolding turn
  sofar_turn p i os l s = go (eqb (get_or ps i 0) p) refl
    where
      go : (t : Bool) → eqb (get_or ps i 0) p ≡ t → Sofar ps p (i + 1) (turn ps p i os)
      go true q = rw q (let e : get_or ps i 0 ≡ p = eqb-true _ _ q in rw (← e) (sofar_set i os l (rw (← e) at s)))
      go false q =
          rw q (record { long = s.long; each = λ k m w. s.each k m (earlier_back ps p i k (λ y. eqb-false _ _ q (rw y.0 at y.1)) w) })

  sofar_rise : (p : ℕ) (os : List ℕ) → Sofar ps p (length ps) os → Sofar ps (p + 1) 0 os
  sofar_rise p os s = record { long = s.long; each = λ k m w. s.each k m (earlier_rise ps p k m w) }

  -- So, from any list to start with, every child has the smallest free offset in the end.
  levels_settled : Positive ps → (os : List ℕ) → length os ≡ length ps
      → Settled ps (levels ps (largest ps) 1 os)
  levels_settled positive os e = record { long = all.long; each = λ k m. all.each k m (all_earlier ps k m) }
    where
      start : Sofar ps 1 0 os
      start = record { long = e; each = λ k m w. absurd (none_earlier ps positive k m w) }

      all : Sofar ps (1 + largest ps) 0 (levels ps (largest ps) 1 os)
      all = levels_keep ps (Sofar ps) sofar_turn sofar_rise (largest ps) 1 os start

  -- And only one list of offsets has that.
  pub settled_unique : Positive ps → (os us : List ℕ) → Settled ps os → Settled ps us → os ≡ us
  settled_unique positive os us s v =
      ext_get_or 0 os us (s.long ∙ sym v.long) (λ k m. let l : k < length ps = omega (arith, s.long) in all k l (all_earlier ps k l))
    where
      Agree : ℕ → ℕ → List ℕ → Type 0
      Agree p i _ = (k : ℕ) → k < length ps → earlier ps p i k ≡ true → get_or os k 0 ≡ get_or us k 0

      step : (p i : ℕ) (xs : List ℕ) → i < length ps → Agree p i xs → Agree p (i + 1) (turn ps p i xs)
      step p i xs l a k m w = at (earlier_joins ps p i k w)
        where
          at : (earlier ps p i k ≡ true) ⊎ ((k ≡ i) × (get_or ps k 0 ≡ p)) → get_or os k 0 ≡ get_or us k 0
          at (inl e) = a k m e
          at (inr (z, q)) = s.each k m ∙ free_agrees ps os us (get_or ps k 0) k (λ j h e. a j h (rw (q, z) at e)) ∙ sym (v.each k m)

      rise : (p : ℕ) (xs : List ℕ) → Agree p (length ps) xs → Agree (p + 1) 0 xs
      rise p xs a k m w = a k m (earlier_rise ps p k m w)

      all : Agree (1 + largest ps) 0 (levels ps (largest ps) 1 os)
      all = levels_keep ps Agree step rise (largest ps) 1 os (λ k m w. absurd (none_earlier ps positive k m w))

  -- The offsets assigned are those, and the assignment may start from any list.
  pub offsets_settled : Positive ps → Settled ps (offsets_for ps)
  unfolding offsets_for
  offsets_settled positive = levels_settled positive (replicate (length ps) 0) (length-replicate (length ps) 0)

  pub levels_offsets : Positive ps → (os : List ℕ) → length os ≡ length ps
      → levels ps (largest ps) 1 os ≡ offsets_for ps
  levels_offsets positive os e = settled_unique positive _ _ (levels_settled positive os e) (offsets_settled positive)
