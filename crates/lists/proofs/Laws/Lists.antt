-- Loops over a list, for lists of any width: a list filled entry by entry, a sum, and the smallest and largest number.
use Prim.Native.Nat.{ℕ, zero, suc, ◌+◌, ◌*◌, ◌≤◌, ◌<◌}
use mathlib.Core.Path.{◌≡◌, refl, sym, ◌∙◌, ap}
use mathlib.Core.List.{List, [], ◌∷◌, map}
use lib.ListN.{length, get_or, set, drop, replicate, length-set, length-map, drop_of_length-le}
use lib.Seq.{drop-cons, get_or-set_same, get_or-set_other, ext_get_or}
use borrow.Author.Count.{below_more}
use native.Mathlib.Nat.{mul-suc}
use native.Mathlib.Numerals.{add-one}
use native.Mathlib.Omega.{arith}
use Rattle.lists.specs.Lists.{total}

-- No period is 0.
abbrev pub Positive : List ℕ → Type 0
Positive ps = (k : ℕ) → k < length ps → 1 ≤ get_or ps k 0

module _ {A B : Type 0} (d : A) (e : B) (h : A → B) where
  pub get_or_map : (xs : List A) (i : ℕ) → i < length xs → get_or (map h xs) i e ≡ h (get_or xs i d)
  get_or_map [] i l = absurd (omega arith)
  get_or_map (x ∷ xs) zero l = refl
  get_or_map (x ∷ xs) (suc i) l = get_or_map xs i (omega arith)

  -- The first i entries of ys are those of xs under h.
  pub record Filled (xs : List A) (i : ℕ) (ys : List B) : Type 0 where
    pub most : i ≤ length xs
    pub long : length ys ≡ length xs
    pub each : (k : ℕ) → k < i → get_or ys k e ≡ h (get_or xs k d)

  pub filled_start : (xs : List A) (ys : List B) → length ys ≡ length xs → Filled xs 0 ys
  filled_start xs ys l = record { most = omega arith; long = l; each = λ k m. absurd (omega arith) }

  pub filled_more : (xs : List A) (i : ℕ) (ys : List B) (y : B) → Filled xs i ys → i < length xs → y ≡ h (get_or xs i d)
      → Filled xs (i + 1) (set ys i y)
  filled_more xs i ys y w l q = record {
    most = omega arith;
    long = simp length-set w.long;
    each = below_more _ i (λ k m. get_or-set_other ys i k y e (λ z. omega arith) ∙ w.each k m) (get_or-set_same ys i y e (omega (arith, w.long)) ∙ q);
  }

  pub filled_end : (xs : List A) (i : ℕ) (ys : List B) → Filled xs i ys → length xs ≤ i → ys ≡ map h xs
  filled_end xs i ys w l =
      ext_get_or e ys (map h xs) (w.long ∙ sym (length-map xs h)) (λ k m. w.each k (omega (arith, w.long)) ∙ sym (get_or_map xs k (omega (arith, w.long))))

-- A list filled with one value.
pub map_constant : {A B : Type 0} (y : B) (xs : List A) → map (λ x. y) xs ≡ replicate (length xs) y
map_constant y [] = refl
map_constant {B = B} y (x ∷ xs) = ap (λ (ys : List B). y ∷ ys) (map_constant y xs)

-- A sum over a list, of which the first i entries are in; each adds at most `most`.
pub record Summed (h : ℕ → ℕ) (most : ℕ) (xs : List ℕ) (i sum : ℕ) : Type 0 where
  pub upto : i ≤ length xs
  pub rest : sum + total (map h (drop i xs)) ≡ total (map h xs)
  pub few : sum ≤ most * i

module _ (h : ℕ → ℕ) (most : ℕ) (xs : List ℕ) where
  pub summed_start : Summed h most xs 0 0
  summed_start = record { upto = omega arith; rest = omega arith; few = omega arith }

  pub summed_more : (i sum x : ℕ) → Summed h most xs i sum → i < length xs → x ≡ h (get_or xs i 0) → x ≤ most → Summed h most xs (i + 1) (sum + x)
  unfolding total
  summed_more i sum x s l e m =
      record { upto = omega arith; rest = rw add-one (more ∙ s.rest); few = rw (add-one, mul-suc) (omega (arith, s.few)) }
    where
      more : sum + x + total (map h (drop (suc i) xs)) ≡ sum + total (map h (drop i xs))
      more = rw (drop-cons xs i 0 l, e) (omega arith)

  pub summed_end : (i sum : ℕ) → Summed h most xs i sum → length xs ≤ i → sum ≡ total (map h xs)
  unfolding total
  summed_end i sum s l = let e = rw (drop_of_length-le xs l) at s.rest in omega arith
