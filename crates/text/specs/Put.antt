-- Text that is put into a borrowed space piece by piece.
use Rattle.std.specs.Prelude.{ℕ, List, [], ◌∷◌, ◌++◌}
use Rattle.slices.specs.Put.{put}

-- Pieces put one after the other.
unfoldable pub puts : ℕ × List ℕ → List (List ℕ) → ℕ × List ℕ
puts s [] = s
puts s (piece ∷ pieces) = puts (put s piece) pieces

-- The text that pieces make.
unfoldable pub text_of : List (List ℕ) → List ℕ
text_of [] = []
text_of (piece ∷ pieces) = piece ++ text_of pieces
