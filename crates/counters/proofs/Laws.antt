-- What is proved of blocks, for any size and any kind of element: a block that is put in is the one taken out, the others stay as they are, and so does
-- the length; blocks that are joined are the blocks of the list. And how a part that was lent on comes back.
use Prim.Native.Nat.{ℕ, zero, suc, ◌+◌, ◌-◌, ◌*◌, ◌≤◌, ◌<◌}
use mathlib.Core.Path.{◌≡◌, refl, sym, ◌∙◌, ap}
use mathlib.Core.List.{List, ◌∷◌, ◌++◌, append_assoc}
use mathlib.Core.Logic.{◌⊎◌, inl, inr}
use lib.ListN.{length, take, drop, replicate, length-append, length-take, length-drop, length-replicate, take-append-drop}
use lib.Seq.{length-take-le, drop-append-le, take-append-le, drop-append-add, drop-drop, take_at, drop_at}
use borrow.Author.Tests.{le-leb, lt-leb}
use native.Mathlib.Nat.{mul-suc, mul-zero, mul-le-mul_left}
use native.Mathlib.Omega.{arith}
use Rattle.lists.specs.Lists.{joined}
use Rattle.lists.proofs.Laws.Search.{lt_or_le}
use Rattle.counters.specs.Blocks.{block, with_block, with_cells, zeros, cleared}

-- A block ends where the next begins, at the latest.
apart : (k n f : ℕ) → n < f → k * n + k ≤ k * f
apart k n f l = rw mul-suc at (mul-le-mul_left {m = suc n} {n = f} k l)

module _ {A : Type 0} where
  -- Entries that stand in the first of two lists.
  front : (a k : ℕ) (xs ys : List A) → a + k ≤ length xs → take k (drop a (xs ++ ys)) ≡ take k (drop a xs)
  front a k xs ys l = rw (drop-append-le a xs ys (omega arith)) (take-append-le k (drop a xs) ys (simp length-drop (omega arith)))

  module _ (k n : ℕ) (xs : List A) (fits : k * n + k ≤ length xs) where
    pub length_block : length (block k n xs) ≡ k
    unfolding block
    length_block = simp (length-take, length-drop) (omega arith)

    before : length (take (k * n) xs) ≡ k * n
    before = length-take-le (k * n) xs (omega arith)

    module _ (ys : List A) (long : length ys ≡ k) where
      pub length_with : length (with_block k n ys xs) ≡ length xs
      unfolding with_block
      length_with = simp (length-append, before, length-drop, long) (omega arith)

      pub block_same : block k n (with_block k n ys xs) ≡ ys
      unfolding block with_block
      block_same = rw (drop_at (take (k * n) xs) (ys ++ drop k (drop (k * n) xs)) (k * n) before) (take_at ys _ k long)

      pub block_other : (f : ℕ) → (f ≡ n → ⊥) → block k f (with_block k n ys xs) ≡ block k f xs
      unfolding block with_block
      block_other f d = go (lt_or_le f n)
        where
          go : (f < n) ⊎ (n ≤ f) → take k (drop (k * f) (take (k * n) xs ++ (ys ++ drop k (drop (k * n) xs)))) ≡ take k (drop (k * f) xs)
          go (inl l) =
              let w = apart k f n l in
              front (k * f) k (take (k * n) xs) _ (omega (arith, before))
              ∙ sym (front (k * f) k (take (k * n) xs) (drop (k * n) xs) (omega (arith, before))) ∙ rw (take-append-drop (k * n) xs)
          go (inr l) =
              let w = apart k n f (omega arith) in
              let here : length (take (k * n) xs ++ ys) ≡ k * n + k = rw (length-append, before, long) in
              let at : k * f ≡ length (take (k * n) xs ++ ys) + (k * f - (k * n + k)) = rw here (omega arith) in
              let rest : k * n + (k + (k * f - (k * n + k))) ≡ k * f = omega arith in
              ap (λ (r : List A). take k r)
              (rw (← append_assoc (take (k * n) xs) ys (drop k (drop (k * n) xs)))
              (ap (λ (i : ℕ). drop i ((take (k * n) xs ++ ys) ++ drop k (drop (k * n) xs))) at
              ∙ drop-append-add (take (k * n) xs ++ ys) _ _
              ∙ drop-drop _ k (drop (k * n) xs) ∙ drop-drop _ (k * n) xs ∙ ap (λ (i : ℕ). drop i xs) rest))

  -- A part lent from k * n to k * n + k is block n, and comes back as block n.
  pub block_lent : (k n : ℕ) (xs : List A) → take (k * n + k - k * n) (drop (k * n) xs) ≡ block k n xs
  unfolding block
  block_lent k n xs = let size : k * n + k - k * n ≡ k = omega arith in rw size

  pub block_back : (k n : ℕ) (ys xs : List A) → take (k * n) xs ++ (ys ++ drop (k * n + k - k * n) (drop (k * n) xs)) ≡ with_block k n ys xs
  unfolding with_block
  block_back k n ys xs = let size : k * n + k - k * n ≡ k = omega arith in rw size

-- Blocks of size k that are joined, those of the r numbers from i on: their length, and each of them.
module _ {A : Type 0} (k : ℕ) (item : ℕ → List A) where
  pub length_joined : (r i : ℕ) → ((j : ℕ) → i ≤ j → j < i + r → length (item j) ≡ k) → length (joined item r i) ≡ k * r
  unfolding joined
  length_joined zero i size = rw mul-zero
  length_joined (suc r) i size =
      rw (length-append, size i (omega arith) (omega arith), length_joined r (i + 1) (λ j lo hi. size j (omega arith) (omega arith)), mul-suc) (omega arith)

  pub block_joined : (r i n : ℕ) → ((j : ℕ) → i ≤ j → j < i + r → length (item j) ≡ k) → n < r → block k n (joined item r i) ≡ item (i + n)
  unfolding joined block
  block_joined zero i n size l = absurd (omega arith)
  block_joined (suc r) i zero size l =
      let e : i + 0 ≡ i = omega arith in rw (e, mul-zero) (take_at (item i) _ k (size i (omega arith) (omega arith)))
  block_joined (suc r) i (suc n) size l =
      let e : i + suc n ≡ i + 1 + n = omega arith in
      let at : k * suc n ≡ length (item i) + k * n = rw (mul-suc, size i (omega arith) (omega arith)) (omega arith) in
      rw (at, e, drop-append-add (item i) (joined item r (i + 1)) (k * n)) (block_joined r (i + 1) n (λ j lo hi. size j (omega arith) (omega arith)) (omega arith))

-- Zeros, of which a part is zeros too.
pub length_zeros : (n : ℕ) → length (zeros n) ≡ n
unfolding zeros
length_zeros n = length-replicate n 0

pub block_zeros : (k n r : ℕ) → k * n + k ≤ r → block k n (zeros r) ≡ zeros k
unfolding block zeros
block_zeros k n r l = part k (k * n) r l
  where
    part : (j a m : ℕ) → a + j ≤ m → take {A = ℕ} j (drop a (replicate m 0)) ≡ replicate j 0
    part zero zero m h = refl
    part (suc j) zero zero h = absurd (omega arith)
    part (suc j) zero (suc m) h = ap (λ (xs : List ℕ). 0 ∷ xs) (part j zero m (omega arith))
    part j (suc a) zero h = absurd (omega arith)
    part j (suc a) (suc m) h = part j a m (omega arith)

-- The nine cells of a flow number, lent on and come back as zeros; and counters that do not have them.
module _ (n : ℕ) (cs : List ℕ) where
  pub flow_cleared : (ys : List ℕ) → 9 * n + 9 ≤ length cs → ys ≡ zeros (length (take (9 * n + 9 - 9 * n) (drop (9 * n) cs)))
      → take (9 * n) cs ++ (ys ++ drop (9 * n + 9 - 9 * n) (drop (9 * n) cs)) ≡ cleared n cs
  unfolding cleared with_cells
  flow_cleared ys fits e = rw (le-leb _ _ fits) (block_back 9 n ys cs ∙ rw (e, block_lent 9 n cs, length_block 9 n cs fits))

  pub flow_absent : length cs < 9 * n + 9 → cs ≡ cleared n cs
  unfolding cleared
  flow_absent short = rw (lt-leb _ _ short)
