-- Two lists compared entry by entry, whatever their width.
use Prim.Native.Nat.{ℕ}
use mathlib.Core.Path.{◌≡◌, refl}
use mathlib.Core.Bool.{Bool, true, false, ◌&&◌, false≢true}
use mathlib.Core.List.{List, [], ◌∷◌}
use mathlib.Core.Logic.{◌↔◌}
use lib.Dec.{eqb}
use lib.Pointwise.{pointwise}
use borrow.Author.Tests.{eq-eqb, eqb-true}
use Rattle.lists.specs.Lists.{same}

-- The test of two lists says whether they are equal.
same_equal : (a b : List ℕ) → same a b ≡ true → a ≡ b
unfolding same
same_equal [] [] e = refl
same_equal [] (y ∷ ys) e = absurd (false≢true e)
same_equal (x ∷ xs) [] e = absurd (false≢true e)
same_equal (x ∷ xs) (y ∷ ys) e = go (eqb x y) refl (same_equal xs ys) e
  where
    go : (t : Bool) → eqb x y ≡ t → (same xs ys ≡ true → xs ≡ ys) → t && same xs ys ≡ true → x ∷ xs ≡ y ∷ ys
    go true q ih e = let h = eqb-true _ _ q in let t = ih e in λ i. h i ∷ t i
    go false q ih e = absurd (false≢true e)

same_self : (a : List ℕ) → same a a ≡ true
unfolding same
same_self [] = refl
same_self (x ∷ xs) = rw (eq-eqb x x refl, same_self xs)

pub same_when : (a b : List ℕ) → (same a b ≡ true) ↔ (a ≡ b)
same_when a b = (same_equal a b, λ e. rw e (same_self b))

-- It is the test by which the library compares two slices or arrays.
pub same_test : (a b : List ℕ) → pointwise eqb a b ≡ same a b
unfolding same
same_test [] [] = refl
same_test [] (y ∷ ys) = refl
same_test (x ∷ xs) [] = refl
same_test (x ∷ xs) (y ∷ ys) = rw (same_test xs ys)
