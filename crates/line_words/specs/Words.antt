-- The words of a line, and those that are numbers.
use Rattle.std.specs.Prelude.{ℕ, ◌+◌, ◌-◌, ◌≤◌, ◌<◌, min, ◌≡◌, Bool, true, false, cond, not, ◌||◌, List, [], ◌∷◌, eqb, length, get_or, take, drop, Option, Some, None, MatchOption}
use Rattle.text.specs.Decimal.{value_of, is_number}
use Rattle.line_words.specs.Parts.{parts, reach}
use Rattle.line_words.specs.declared.Operand.{Operand}
use Rattle.line_words.specs.declared.Word.{Word}

-- A space, a tab and a carriage return stand between words.
unfoldable pub is_blank : ℕ → Bool
is_blank c = eqb c 32 || eqb c 9 || eqb c 13

abbrev pub is_letter : ℕ → Bool
is_letter c = not (is_blank c)

-- Parts that have a byte.
unfoldable pub nonempty : List (List ℕ) → List (List ℕ)
nonempty [] = []
nonempty ([] ∷ ps) = nonempty ps
nonempty ((c ∷ cs) ∷ ps) = (c ∷ cs) ∷ nonempty ps

-- The words of a line.
unfoldable pub words_of : List ℕ → List (List ℕ)
words_of line = nonempty (parts is_blank line)

unfoldable pub none : List (List ℕ) → Bool
none [] = true
none (w ∷ ws) = false

-- The first of some words as a number of at most `most`, and the words behind it. Where it is none, no operand can follow either.
unfoldable pub operand_of : List (List ℕ) → ℕ → Bool × ℕ × List (List ℕ)
operand_of [] most = (false, 0, [])
operand_of (w ∷ ws) most = cond (is_number w most) (true, value_of w, ws) (false, 0, [])

-- The number that the word at index i says.
unfoldable pub said : List (List ℕ) → ℕ → ℕ
said words i = value_of (get_or words i [])

-- The first wrong word, of which the first has index k: one that is missing, that is no number up to its limit, or that is too many.
unfoldable pub misfit : List ℕ → List (List ℕ) → ℕ → Option ℕ
misfit [] [] k = None
misfit [] (w ∷ ws) k = Some k
misfit (m ∷ ms) [] k = Some k
misfit (m ∷ ms) (w ∷ ws) k = cond (is_number w m) (misfit ms ws (k + 1)) (Some k)

-- Where the first word of a line from index `from` on begins, and where it ends: at the first letter, and at the first blank behind that. Where there is no
-- word, both are the line's length.
unfoldable pub word_start : List ℕ → ℕ → ℕ
word_start line from = reach is_letter line from

unfoldable pub word_end : List ℕ → ℕ → ℕ
word_end line from = reach is_blank line (word_start line from)

unfoldable pub word_at : List ℕ → ℕ → List ℕ
word_at line from = take (word_end line from - word_start line from) (drop (word_start line from) line)

-- That word as a number of at most `most`, with the index behind it, if it is one.
unfoldable pub operand_at : List ℕ → ℕ → ℕ → Option Operand
operand_at line from most =
    cond (is_number (word_at line from) most)
    (Some (record { value = value_of (word_at line from); next = word_end line from }))
    None

-- What an operand says of the words of its line: its number, and the words behind it. Where there is none, no operand can follow either.
abbrev pub operand_told : List ℕ → Option Operand → Bool × ℕ × List (List ℕ)
operand_told line (Some o) = (true, o.value, words_of (drop o.next line))
operand_told line None = (false, 0, [])

-- The first word of a line from index `from` on stands from `start` to `end`; where there is none, both are the line's length.
pub record NextWord (line : List ℕ) (from start end : ℕ) : Type 0 where
  pub begins : start ≡ word_start line from
  pub ends : end ≡ word_end line from
  pub onward : min from (length line) ≤ start
  pub ordered : start ≤ end
  pub within : end ≤ length line
  pub words : words_of (drop from line) ≡ cond (eqb start end) [] (take (end - start) (drop start line) ∷ words_of (drop end line))
  pub last : start ≡ end → end ≡ length line

-- A word is found where it stands, or none, where the line has none.
abbrev pub FoundWord : List ℕ → ℕ → Option Word → Type 0
FoundWord line from o =
    MatchOption o (NextWord line from (length line) (length line)) (λ w. (w.start < w.end) × NextWord line from w.start w.end)
