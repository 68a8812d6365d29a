-- The pieces of a list, put by a loop over its numbers.
use Prim.Native.Nat.{ℕ, ◌+◌, ◌<◌}
use mathlib.Core.Path.{◌≡◌, refl, sym}
use mathlib.Core.List.{List, [], ◌∷◌, ◌++◌, append-nil, append_assoc}
use lib.ListN.{length, get_or, take}
use lib.Seq.{take-suc}
use native.Mathlib.Numerals.{add-one}
use Rattle.text.specs.Listed.{each}

each_append : (item : ℕ → List (List ℕ)) (xs ys : List ℕ) → each item (xs ++ ys) ≡ each item xs ++ each item ys
unfolding each
each_append item [] ys = refl
each_append item (x ∷ xs) ys = rw (each_append item xs ys) (sym (append_assoc (item x) (each item xs) (each item ys)))

-- Those of one number more.
pub each_more : (item : ℕ → List (List ℕ)) (xs : List ℕ) (i : ℕ) → i < length xs → each item (take (i + 1) xs) ≡ each item (take i xs) ++ item (get_or xs i 0)
unfolding each
each_more item xs i l = rw (add-one i, take-suc xs i 0 l, each_append item (take i xs) (get_or xs i 0 ∷ []), append-nil (item (get_or xs i 0)))
