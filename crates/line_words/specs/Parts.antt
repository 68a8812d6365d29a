-- Text taken apart at the bytes that a test marks: lines at newlines, words at blanks.
use Rattle.std.specs.Prelude.{ℕ, ◌≤◌, ◌<◌, min, ◌≡◌, Bool, true, false, cond, List, [], ◌∷◌, eqb, length, get_or, Option, MatchOption}
use Rattle.lists.specs.Search.{first_in}

-- A byte before the first of some parts.
unfoldable pub onto : ℕ → List (List ℕ) → List (List ℕ)
onto c [] = (c ∷ []) ∷ []
onto c (p ∷ ps) = (c ∷ p) ∷ ps

-- The parts of a text: a marked byte ends one, the end of the text ends the last.
unfoldable pub parts : (ℕ → Bool) → List ℕ → List (List ℕ)
parts mark [] = [] ∷ []
parts mark (c ∷ cs) = cond (mark c) ([] ∷ parts mark cs) (onto c (parts mark cs))

unfoldable pub first_part : List (List ℕ) → List ℕ
first_part [] = []
first_part (p ∷ ps) = p

-- What stands before the first marked byte: all of a text that has none.
unfoldable pub before : (ℕ → Bool) → List ℕ → List ℕ
before mark text = first_part (parts mark text)

abbrev pub is : ℕ → ℕ → Bool
is byte c = eqb c byte

-- The lines of a text: a newline ends each but the last.
unfoldable pub lines_of : List ℕ → List (List ℕ)
lines_of text = parts (is 10) text

-- The first index from `from` on of a marked byte, or the text's length where there is none.
unfoldable pub reach : (ℕ → Bool) → List ℕ → ℕ → ℕ
reach mark text from = first_in (λ i. mark (get_or text i 0)) (length text) (min from (length text))

-- The same in words: r is that index, and no other (`reaches_once`).
pub record Reaches (mark : ℕ → Bool) (text : List ℕ) (from r : ℕ) : Type 0 where
  pub onward : min from (length text) ≤ r
  pub within : r ≤ length text
  pub passed : (i : ℕ) → from ≤ i → i < r → mark (get_or text i 0) ≡ false
  pub marked : r < length text → mark (get_or text r 0) ≡ true

-- A search from `from` on finds that index, or nothing where it is the text's length.
abbrev pub FoundFrom : (ℕ → Bool) → List ℕ → ℕ → Option ℕ → Type 0
FoundFrom mark text from o = MatchOption o (Reaches mark text from (length text)) (λ at. (at < length text) × Reaches mark text from at)
