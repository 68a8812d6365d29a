-- What `read_operands` tells of the words of a line.
use Prim.Native.Nat.{ℕ, ◌+◌}
use mathlib.Core.Path.{◌≡◌, refl, ◌∙◌}
use mathlib.Core.Bool.{Bool, true, false, cond, ◌&&◌}
use mathlib.Core.List.{List, [], ◌∷◌}
use Rattle.std.specs.Prelude.{Some, None}
use Rattle.std.specs.Option.{is_none}
use Rattle.text.specs.Decimal.{is_number}
use Rattle.line_words.specs.Words.{none, misfit}
use Rattle.request_text.specs.Requests.{numbers}

-- The words are numbers within their limits just where none of them is wrong.
numbers_fit : (limits : List ℕ) (words : List (List ℕ)) (k : ℕ) → numbers limits words ≡ is_none (misfit limits words k)
unfolding numbers misfit none
numbers_fit [] [] k = refl
numbers_fit [] (w ∷ ws) k = refl
numbers_fit (m ∷ ms) [] k = refl
numbers_fit (m ∷ ms) (w ∷ ws) k = go (is_number w m) (numbers_fit ms ws (k + 1))
  where
    go : (b : Bool) → numbers ms ws ≡ is_none (misfit ms ws (k + 1)) → (b && numbers ms ws) ≡ is_none (cond b (misfit ms ws (k + 1)) (Some k))
    go true e = e
    go false e = refl

module _ (limits : List ℕ) (words : List (List ℕ)) where
  pub numbers_all : misfit limits words 0 ≡ None → numbers limits words ≡ true
  numbers_all e = numbers_fit limits words 0 ∙ rw e

  pub numbers_not : (index : ℕ) → misfit limits words 0 ≡ Some index → numbers limits words ≡ false
  numbers_not index e = numbers_fit limits words 0 ∙ rw e
