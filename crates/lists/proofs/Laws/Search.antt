-- What the searches of specs/Search.antt find, for any test p.
use Prim.Native.Nat.{ℕ, zero, suc, ◌+◌, ◌-◌, ◌≤◌, ◌<◌}
use mathlib.Core.Path.{◌≡◌, refl, sym, ◌∙◌, ap}
use mathlib.Core.Bool.{Bool, true, false, cond, false≢true}
use mathlib.Core.Logic.{◌⊎◌, inl, inr, ⊎_elim, ◌↔◌}
use native.Mathlib.Nat.{eq-or-lt_of_le}
use native.Mathlib.Numerals.{add-one}
use native.Mathlib.Decide.{dec_lt}
use native.Mathlib.Omega.{arith}
use Rattle.std.specs.Prelude.{Some, None}
use borrow.Author.Tests.{lt-ltb, le-ltb}
use Rattle.lists.specs.Search.{last, first, first_in, any, some_below, some_of}

pub lt_or_le : (a b : ℕ) → (a < b) ⊎ (b ≤ a)
lt_or_le a b = elim (dec_lt a b) [ yes l ↦ inl l | no m ↦ inr (omega arith) ]

module _ (p : ℕ → Bool) where
  -- Downwards.
  pub last_le : (n : ℕ) → last p n ≤ n
  unfolding last
  last_le zero = omega arith
  last_le (suc n) = go (p (suc n)) (last_le n)
    where
      go : (t : Bool) → last p n ≤ n → cond t (suc n) (last p n) ≤ suc n
      go true ih = omega arith
      go false ih = omega arith

  -- What is found has the test.
  pub last_passes : (n : ℕ) → 0 < last p n → p (last p n) ≡ true
  unfolding last
  last_passes zero h = absurd (omega arith)
  last_passes (suc n) h = go (p (suc n)) refl (last_passes n) h
    where
      go : (t : Bool) → p (suc n) ≡ t → (0 < last p n → p (last p n) ≡ true) → 0 < cond t (suc n) (last p n) → p (cond t (suc n) (last p n)) ≡ true
      go true e ih l = e
      go false e ih l = ih l

  -- Nothing above it has.
  pub last_above : (n k : ℕ) → last p n < k → k ≤ n → p k ≡ false
  unfolding last
  last_above zero k l h = absurd (omega arith)
  last_above (suc n) k l h = go (p (suc n)) refl (last_above n k) l (eq-or-lt_of_le h)
    where
      go : (t : Bool) → p (suc n) ≡ t → (last p n < k → k ≤ n → p k ≡ false) → cond t (suc n) (last p n) < k → (k ≡ suc n) ⊎ (k < suc n)
          → p k ≡ false
      go true e ih l w = absurd (omega arith)
      go false e ih l (inl q) = rw q e
      go false e ih l (inr m) = ih l (omega arith)

  -- So it is at least each number that has the test, and it is the one above which nothing has.
  pub last_max : (n k : ℕ) → k ≤ n → p k ≡ true → k ≤ last p n
  last_max n k h e = go (lt_or_le (last p n) k)
    where
      go : (last p n < k) ⊎ (k ≤ last p n) → k ≤ last p n
      go (inl l) = absurd (false≢true (sym (last_above n k l h) ∙ e))
      go (inr l) = l

  pub last_is : (n k : ℕ) → k ≤ n → p k ≡ true → ((m : ℕ) → k < m → m ≤ n → p m ≡ false) → last p n ≡ k
  last_is n k h e none = go (eq-or-lt_of_le (last_max n k h e))
    where
      go : (k ≡ last p n) ⊎ (k < last p n) → last p n ≡ k
      go (inl q) = sym q
      go (inr l) = absurd (false≢true (sym (none (last p n) l (last_le n)) ∙ last_passes n (omega arith)))

  -- Step by step.
  pub last_hit : (n : ℕ) → 0 < n → p n ≡ true → last p n ≡ n
  unfolding last
  last_hit zero l e = absurd (omega arith)
  last_hit (suc n) l e = rw e

  pub last_miss : (n : ℕ) → 0 < n → p n ≡ false → last p n ≡ last p (n - 1)
  unfolding last
  last_miss zero l e = absurd (omega arith)
  last_miss (suc n) l e = let k : suc n - 1 ≡ n = omega arith in rw (e, k)

  -- Upwards from c, below n.
  pub first_hit : (n c : ℕ) → c < n → p c ≡ true → first_in p n c ≡ c
  unfolding first
  first_hit n c h t = let e : n - c ≡ suc (n - (c + 1)) = omega arith in rw (e, t)

  pub first_miss : (n c : ℕ) → c < n → p c ≡ false → first_in p n c ≡ first_in p n (c + 1)
  unfolding first
  first_miss n c h t = let e : n - c ≡ suc (n - (c + 1)) = omega arith in rw (e, t)

  pub first_end : (n c : ℕ) → n ≤ c → first_in p n c ≡ c
  unfolding first
  first_end n c h = let e : n - c ≡ 0 = omega arith in rw e

  pub first_passes : (r c : ℕ) → first p r c < c + r → p (first p r c) ≡ true
  unfolding first
  first_passes zero c h = absurd (omega arith)
  first_passes (suc r) c h = go (p c) refl (first_passes r (c + 1)) h
    where
      go : (t : Bool) → p c ≡ t → (first p r (c + 1) < c + 1 + r → p (first p r (c + 1)) ≡ true) → cond t c (first p r (c + 1)) < c + suc r
          → p (cond t c (first p r (c + 1))) ≡ true
      go true e ih l = e
      go false e ih l = ih (omega arith)

  pub first_before : (r c k : ℕ) → c ≤ k → k < first p r c → p k ≡ false
  unfolding first
  first_before zero c k lo hi = absurd (omega arith)
  first_before (suc r) c k lo hi = go (p c) refl (first_before r (c + 1) k) hi (eq-or-lt_of_le lo)
    where
      go : (t : Bool) → p c ≡ t → (c + 1 ≤ k → k < first p r (c + 1) → p k ≡ false) → k < cond t c (first p r (c + 1)) → (c ≡ k) ⊎ (c < k)
          → p k ≡ false
      go true e ih l w = absurd (omega arith)
      go false e ih l (inl q) = rw (← q) e
      go false e ih l (inr m) = ih (omega arith) l

  -- A number in reach that has the test bounds the search.
  pub first_within : (r c k : ℕ) → c ≤ k → p k ≡ true → first p r c ≤ k
  first_within r c k lo e = go (lt_or_le k (first p r c))
    where
      go : (k < first p r c) ⊎ (first p r c ≤ k) → first p r c ≤ k
      go (inl l) = absurd (false≢true (sym (first_before r c k lo l) ∙ e))
      go (inr l) = l

  -- So it finds the one below which nothing has the test.
  pub first_is : (r c k : ℕ) → c ≤ k → k < c + r → p k ≡ true → ((m : ℕ) → m < k → p m ≡ false) → first p r c ≡ k
  first_is r c k lo hi e none = go (eq-or-lt_of_le (first_within r c k lo e))
    where
      go : (first p r c ≡ k) ⊎ (first p r c < k) → first p r c ≡ k
      go (inl q) = q
      go (inr l) = absurd (false≢true (sym (none (first p r c) l) ∙ first_passes r c (omega arith)))

  -- A search finds nothing just when no number has the test, and k just when k has it and no smaller number has.
  pub first_none : (r : ℕ) → (r ≤ first p r 0) ↔ ((k : ℕ) → k < r → p k ≡ false)
  first_none r = (
    λ h k l. first_before r 0 k (omega arith) (omega arith),
    λ none. ⊎_elim (λ l. absurd (false≢true (sym (none (first p r 0) l) ∙ first_passes r 0 (omega arith)))) (λ l. l) (lt_or_le (first p r 0) r),
  )

  pub first_found : (r k : ℕ) → ((first p r 0 ≡ k) × (k < r)) ↔ ((k < r) × (p k ≡ true) × ((j : ℕ) → j < k → p j ≡ false))
  first_found r k = (
    λ w. (w.1, rw w.0 at (first_passes r 0 (omega (arith, w.0, w.1))), λ j l. first_before r 0 j (omega arith) (omega (arith, w.0))),
    λ w. (first_is r 0 k (omega arith) (omega (arith, w.0)) w.1 w.2, w.0),
  )

  -- A search may start at c where nothing below has the test.
  pub first_skip : (n c : ℕ) → c ≤ n → ((k : ℕ) → k < c → p k ≡ false) → first p n 0 ≡ first_in p n c
  first_skip n zero h none = let e : n - 0 ≡ n = omega arith in rw e
  first_skip n (suc c) h none =
      first_skip n c (omega arith) (λ k l. none k (omega arith))
      ∙ first_miss n c (omega arith) (none c (omega arith)) ∙ ap (λ (m : ℕ). first_in p n m) (add-one c)

  -- Whether one of the numbers from k on, below n, has the test.
  pub any_hit : (n k : ℕ) → k < n → p k ≡ true → any p (n - k) k ≡ true
  unfolding any
  any_hit n k h t = let e : n - k ≡ suc (n - (k + 1)) = omega arith in rw (e, t)

  pub any_miss : (n k : ℕ) → k < n → p k ≡ false → any p (n - k) k ≡ any p (n - (k + 1)) (k + 1)
  unfolding any
  any_miss n k h t = let e : n - k ≡ suc (n - (k + 1)) = omega arith in rw (e, t)

  pub any_end : (n k : ℕ) → n ≤ k → any p (n - k) k ≡ false
  unfolding any
  any_end n k h = let e : n - k ≡ 0 = omega arith in rw e

  pub any_none : (r k : ℕ) → any p r k ≡ false → (m : ℕ) → k ≤ m → m < k + r → p m ≡ false
  unfolding any
  any_none zero k e m lo hi = absurd (omega arith)
  any_none (suc r) k e m lo hi = go (p k) refl (any_none r (k + 1)) e (eq-or-lt_of_le lo)
    where
      go : (t : Bool) → p k ≡ t → (any p r (k + 1) ≡ false → (m : ℕ) → k + 1 ≤ m → m < k + 1 + r → p m ≡ false)
          → cond t true (any p r (k + 1)) ≡ false → (k ≡ m) ⊎ (k < m) → p m ≡ false
      go true q ih e w = absurd (false≢true (sym e))
      go false q ih e (inl w) = rw (← w) q
      go false q ih e (inr w) = ih e m (omega arith) (omega arith)

  pub any_some : (r k : ℕ) → any p r k ≡ true → (m : ℕ) × (k ≤ m) × (m < k + r) × (p m ≡ true)
  unfolding any
  any_some zero k e = absurd (false≢true e)
  any_some (suc r) k e = go (p k) refl (any_some r (k + 1)) e
    where
      more : (m : ℕ) × (k + 1 ≤ m) × (m < k + 1 + r) × (p m ≡ true) → (m : ℕ) × (k ≤ m) × (m < k + suc r) × (p m ≡ true)
      more (m, lo, hi, q) = (m, omega arith, omega arith, q)

      go : (t : Bool) → p k ≡ t → (any p r (k + 1) ≡ true → (m : ℕ) × (k + 1 ≤ m) × (m < k + 1 + r) × (p m ≡ true))
          → cond t true (any p r (k + 1)) ≡ true → (m : ℕ) × (k ≤ m) × (m < k + suc r) × (p m ≡ true)
      go true q ih e = (k, omega arith, omega arith, q)
      go false q ih e = more (ih e)

  pub any_at : (r k m : ℕ) → k ≤ m → m < k + r → p m ≡ true → any p r k ≡ true
  any_at r k m lo hi e = go (any p r k) refl
    where
      go : (t : Bool) → any p r k ≡ t → any p r k ≡ true
      go true q = q
      go false q = absurd (false≢true (sym (any_none r k q m lo hi) ∙ e))

-- Tests that agree where the search looks find the same.
module _ (p q : ℕ → Bool) where
  pub any_ext : (r k : ℕ) → ((m : ℕ) → k ≤ m → m < k + r → p m ≡ q m) → any p r k ≡ any q r k
  unfolding any
  any_ext zero k h = refl
  any_ext (suc r) k h = rw (h k (omega arith) (omega arith), any_ext r (k + 1) (λ m lo hi. h m (omega arith) (omega arith)))

  pub first_ext : (r c : ℕ) → ((m : ℕ) → p m ≡ q m) → first p r c ≡ first q r c
  unfolding first
  first_ext zero c h = refl
  first_ext (suc r) c h = rw (h c, first_ext r (c + 1) h)

-- A number that is 0 where there is none, and what a search found that ends with n where there is none: the option from the number, and back.
pub some_when : (k : ℕ) → 1 ≤ k → Some k ≡ some_of k
some_when zero l = absurd (omega arith)
some_when (suc k) l = refl

pub some_is : (k x : ℕ) → Some x ≡ some_of k → (x ≡ k) × (1 ≤ k)
some_is zero x e = cc
some_is (suc k) x e = (cc, omega arith)

pub none_is : (k : ℕ) → None ≡ some_of k → k ≡ 0
none_is zero e = refl
none_is (suc k) e = cc

module _ (n k : ℕ) where
  pub below_when : k < n → Some k ≡ some_below n k
  below_when l = simp (lt-ltb _ _ l)

  pub past_when : n ≤ k → None ≡ some_below n k
  past_when l = simp (le-ltb _ _ l)

  pub below_is : (x : ℕ) → Some x ≡ some_below n k → (x ≡ k) × (k < n)
  below_is x e = go (lt_or_le k n)
    where
      go : (k < n) ⊎ (n ≤ k) → (x ≡ k) × (k < n)
      go (inl l) = let q = below_when l in (cc, l)
      go (inr m) = let q = past_when m in cc

  pub past_is : None ≡ some_below n k → n ≤ k
  past_is e = go (lt_or_le k n)
    where
      go : (k < n) ⊎ (n ≤ k) → n ≤ k
      go (inl l) = let q = below_when l in cc
      go (inr m) = m
