-- How many numbers below n pass a test, and how many of a residue class there are. Sums over a range of indices.
use Prim.Native.Nat.{ℕ, zero, suc, ◌+◌, ◌*◌, ◌/◌, ◌%◌, ◌≤◌, ◌<◌}
use mathlib.Core.Path.{◌≡◌, refl, sym, ◌∙◌}
use mathlib.Core.Bool.{Bool, true, false, cond}
use mathlib.Core.Logic.{◌⊎◌, inl, inr}
use lib.Dec.{eqb}
use borrow.Author.Tests.{eqb-true}
use native.Mathlib.Nat.{add-zero, add-suc, zero-mul, suc-mul, mul-zero, mul-add, mul-add-mod_self_right, mul-le-mul_right, mod-lt, mod-eq_of_lt, div-add-mod'}
use native.Mathlib.Nat.{eq-or-lt_of_le}
use native.Mathlib.Omega.{arith}
use Rattle.lists.specs.Search.{any}
use Rattle.slot_rule.specs.Inner.{bit, count}
use Rattle.slot_rule.specs.Words.{Once}
use Rattle.lists.proofs.Laws.Search.{lt_or_le}

-- h k + h (k + 1) + .. over r indices.
unfoldable pub sum_of : (ℕ → ℕ) → ℕ → ℕ → ℕ
sum_of h zero k = 0
sum_of h (suc r) k = h k + sum_of h r (k + 1)

-- Where fewer than n numbers below n pass, one does not.
pub count_room : (p : ℕ → Bool) (n : ℕ) → count p n < n → (c : ℕ) × (c < n) × (p c ≡ false)
unfolding count
count_room p zero h = absurd (omega arith)
count_room p (suc n) h = go (p n) refl (count_room p n) h
  where
    more : (c : ℕ) × (c < n) × (p c ≡ false) → (c : ℕ) × (c < suc n) × (p c ≡ false)
    more (c, l, e) = (c, omega arith, e)

    go : (t : Bool) → p n ≡ t → (count p n < n → (c : ℕ) × (c < n) × (p c ≡ false)) → bit t + count p n < suc n
        → (c : ℕ) × (c < suc n) × (p c ≡ false)
    go true e ih l = more (ih (omega arith))
    go false e ih l = (n, omega arith, e)

count_add : (p : ℕ → Bool) (n m : ℕ) → count p (n + m) ≡ count p n + count (λ c. p (n + c)) m
unfolding count
count_add p n zero = simp add-zero
count_add p n (suc m) = rw add-suc (omega (arith, count_add p n m))

pub count_ext : (p q : ℕ → Bool) (n : ℕ) → ((c : ℕ) → c < n → p c ≡ q c) → count p n ≡ count q n
unfolding count
count_ext p q zero h = refl
count_ext p q (suc n) h = rw (h n (omega arith), count_ext p q n (λ c l. h c (omega arith)))

pub count_le : (p : ℕ → Bool) (n : ℕ) → count p n ≤ n
unfolding count
count_le p zero = omega arith
count_le p (suc n) = go (p n) (count_le p n)
  where
    go : (t : Bool) → count p n ≤ n → bit t + count p n ≤ suc n
    go true ih = omega arith
    go false ih = omega arith

-- A test that passes at one number more counts one more.
pub count_more : (p q : ℕ → Bool) (n i : ℕ) → i < n → p i ≡ false → q i ≡ true → ((k : ℕ) → (k ≡ i → ⊥) → p k ≡ q k)
    → count q n ≡ count p n + 1
unfolding count
count_more p q zero i l e t same = absurd (omega arith)
count_more p q (suc n) i l e t same = go (eq-or-lt_of_le l) (count_more p q n i)
  where
    go : (suc i ≡ suc n) ⊎ (suc i < suc n)
        → (i < n → p i ≡ false → q i ≡ true → ((k : ℕ) → (k ≡ i → ⊥) → p k ≡ q k) → count q n ≡ count p n + 1)
        → bit (q n) + count q n ≡ (bit (p n) + count p n) + 1
    go (inl z) ih =
        let w : i ≡ n = omega arith in
        let rest = count_ext p q n (λ k m. same k (λ y. omega arith)) in
        rw (rw w at t, rw w at e, rest) (omega arith)
    go (inr m) ih = rw (same n (λ y. omega arith)) (omega (arith, ih (omega arith) e t same))

-- A number that passes one of two tests is counted for at least one of them.
count_either : (p q : ℕ → Bool) (n : ℕ) → count (λ c. cond (p c) true (q c)) n ≤ count p n + count q n
unfolding count
count_either p q zero = omega arith
count_either p q (suc n) = go (p n) (q n) (count_either p q n)
  where
    go : (s t : Bool) → count (λ c. cond (p c) true (q c)) n ≤ count p n + count q n
        → bit (cond s true t) + count (λ c. cond (p c) true (q c)) n ≤ (bit s + count p n) + (bit t + count q n)
    go true t ih = omega arith
    go false t ih = omega arith

-- No number below r is r, and of any numbers at most one is.
count_one : (r n : ℕ) → (n ≤ r → count (λ c. eqb c r) n ≡ 0) × (count (λ c. eqb c r) n ≤ 1)
unfolding count
count_one r zero = (λ l. refl, omega arith)
count_one r (suc n) = go (eqb n r) refl (count_one r n)
  where
    go : (t : Bool) → eqb n r ≡ t → (n ≤ r → count (λ c. eqb c r) n ≡ 0) × (count (λ c. eqb c r) n ≤ 1)
        → (suc n ≤ r → bit t + count (λ c. eqb c r) n ≡ 0) × (bit t + count (λ c. eqb c r) n ≤ 1)
    go true e ih = let q : n ≡ r = eqb-true n r e in (λ l. omega arith, omega (arith, ih.0 (omega arith)))
    go false e ih = (λ l. omega (arith, ih.0 (omega arith)), omega (arith, ih.1))

-- Each of m blocks of q numbers has at most one number in the class.
class_blocks : (q r m : ℕ) → count (λ c. eqb (c % q) r) (m * q) ≤ m
unfolding count
class_blocks q r zero = rw zero-mul (omega arith)
class_blocks q r (suc m) = rw (suc-mul, count_add (λ c. eqb (c % q) r) (m * q) q) (omega (arith, class_blocks q r m, block, (count_one r q).1))
  where
    block : count (λ c. eqb ((m * q + c) % q) r) q ≡ count (λ c. eqb c r) q
    block = count_ext (λ c. eqb ((m * q + c) % q) r) (λ c. eqb c r) q (λ c l. rw (mul-add-mod_self_right, mod-eq_of_lt l))

-- Of n numbers at most n / q are in one residue class of q, where q divides n.
pub class_le : (q r n : ℕ) → n / q * q ≡ n → count (λ c. eqb (c % q) r) n ≤ n / q
class_le q r n e = rw e at (class_blocks q r (n / q))

pub count_none : (n : ℕ) → count (λ c. false) n ≡ 0
unfolding count
count_none zero = refl
count_none (suc n) = omega (arith, count_none n)

-- A number that passes one of several tests is counted for at least one of them.
pub count_any : (t : ℕ → ℕ → Bool) (r k m : ℕ) → count (λ c. any (t c) r k) m ≤ sum_of (λ i. count (λ c. t c i) m) r k
unfolding any sum_of
count_any t zero k m = omega (arith, count_none m)
count_any t (suc r) k m = omega (arith, count_either (λ c. t c k) (λ c. any (t c) r (k + 1)) m, count_any t r (k + 1) m)

pub sum_of_le : (g h : ℕ → ℕ) (r k : ℕ) → ((i : ℕ) → k ≤ i → i < k + r → g i ≤ h i) → sum_of g r k ≤ sum_of h r k
unfolding sum_of
sum_of_le g h zero k each = omega arith
sum_of_le g h (suc r) k each =
    omega (arith, each k (omega arith) (omega arith), sum_of_le g h r (k + 1) (λ i lo hi. each i (omega arith) (omega arith)))

cond_le : (t : Bool) (n : ℕ) → cond t n 0 ≤ n
cond_le true n = omega arith
cond_le false n = omega arith

-- A sum in which the term at i is left out, and others may be, is smaller by at least that term.
pub sum_of_without : (keep : ℕ → Bool) (h : ℕ → ℕ) (r k i : ℕ) → k ≤ i → i < k + r → keep i ≡ false
    → sum_of (λ m. cond (keep m) (h m) 0) r k + h i ≤ sum_of h r k
unfolding sum_of
sum_of_without keep h zero k i lo hi e = absurd (omega arith)
sum_of_without keep h (suc r) k i lo hi e = go (sum_of_without keep h r (k + 1) i) (eq-or-lt_of_le lo)
  where
    kept : ℕ → ℕ
    kept m = cond (keep m) (h m) 0

    go : (k + 1 ≤ i → i < k + 1 + r → keep i ≡ false → sum_of kept r (k + 1) + h i ≤ sum_of h r (k + 1)) → (k ≡ i) ⊎ (k < i)
        → kept k + sum_of kept r (k + 1) + h i ≤ h k + sum_of h r (k + 1)
    go ih (inl q) = rw (q, e) (omega (arith, sum_of_le kept h r (i + 1) (λ m l u. cond_le (keep m) (h m))))
    go ih (inr l) = omega (arith, cond_le (keep k) (h k), ih (omega arith) (omega arith) e)

pub sum_of_scale : (c : ℕ) (h : ℕ → ℕ) (r k : ℕ) → sum_of (λ m. c * h m) r k ≡ c * sum_of h r k
unfolding sum_of
sum_of_scale c h zero k = sym (mul-zero c)
sum_of_scale c h (suc r) k = rw (sum_of_scale c h r (k + 1), mul-add)

-- Two numbers of one residue class are a whole period apart.
class_apart : (p u t : ℕ) → u % p ≡ t % p → u < t → u + p ≤ t
class_apart p u t e l = go (lt_or_le (u / p) (t / p))
  where
    go : (u / p < t / p) ⊎ (t / p ≤ u / p) → u + p ≤ t
    go (inl m) = omega (arith, mul-le-mul_right p m, suc-mul (u / p) p, div-add-mod' u p, div-add-mod' t p)
    go (inr m) = absurd (omega (arith, mul-le-mul_right p m, div-add-mod' u p, div-add-mod' t p))

-- So of p numbers in a row exactly one is of a given class.
pub class_once : (p o s : ℕ) → o < p → Once p o s
class_once p o s l = go (lt_or_le o (s % p))
  where
    low : s % p < p
    low = mod-lt s (omega arith)

    only : (t : ℕ) → s ≤ t → t < s + p → t % p ≡ o → (u : ℕ) → s ≤ u → u < s + p → u % p ≡ o → u ≡ t
    only t a b e u c d q = at (lt_or_le u t) (lt_or_le t u)
      where
        at : (u < t) ⊎ (t ≤ u) → (t < u) ⊎ (u ≤ t) → u ≡ t
        at (inl m) w = absurd (omega (arith, class_apart p u t (q ∙ sym e) m))
        at (inr m) (inl n) = absurd (omega (arith, class_apart p t u (e ∙ sym q) n))
        at (inr m) (inr n) = omega arith

    here : (m : ℕ) → s ≤ m * p + o → m * p + o < s + p → Once p o s
    here m a b = let e : (m * p + o) % p ≡ o = rw mul-add-mod_self_right (mod-eq_of_lt l) in (m * p + o, a, b, e, only (m * p + o) a b e)

    go : (o < s % p) ⊎ (s % p ≤ o) → Once p o s
    go (inl m) = here (suc (s / p)) (omega (arith, low, suc-mul (s / p) p, div-add-mod' s p)) (omega (arith, suc-mul (s / p) p, div-add-mod' s p))
    go (inr m) = here (s / p) (omega (arith, div-add-mod' s p)) (omega (arith, low, div-add-mod' s p))
