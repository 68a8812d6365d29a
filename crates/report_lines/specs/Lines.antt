-- 01, Marked plans: the lines that printed texts have in common, as pieces of words and decimal numbers.
use Rattle.std.specs.Prelude.{ℕ, List, [], ◌∷◌, ◌++◌}
use Rattle.rulings.specs.Outcome.{Ruling, accepted, refused}
use Rattle.text.specs.Letters.{letters}
use Rattle.text.specs.Decimal.{decimal}

-- When a link sends, at the end of its line.
abbrev pub slots_text : ℕ → ℕ → List (List ℕ)
slots_text offset period = letters " offset " ∷ decimal offset ∷ letters " period " ∷ decimal period ∷ letters "\n" ∷ []

-- A refusal is one line: number, place.
unfoldable pub refusal : ℕ → ℕ → List (List ℕ)
refusal number place = letters "refused " ∷ decimal number ∷ letters " " ∷ decimal place ∷ []

abbrev pub refusal_line : ℕ → ℕ → List (List ℕ)
refusal_line number place = refusal number place ++ (letters "\n" ∷ [])

-- The same of a call's outcome, where an accepted call has a word for it.
unfoldable pub verdict_text : Ruling → List (List ℕ)
verdict_text (accepted a) = letters "accepted" ∷ []
verdict_text (refused number place) = refusal number place
