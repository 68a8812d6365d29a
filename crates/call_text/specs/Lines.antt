-- What a line asks for, by its words.
use Rattle.std.specs.Prelude.{ℕ, Bool, true, false, cond, List, [], ◌∷◌, eqb, get_or, replicate}
use Rattle.text.specs.Letters.{letters}
use Rattle.text.specs.Decimal.{value_of, is_number}
use Rattle.line_words.specs.Words.{words_of}
use Rattle.lists.specs.Lists.{same}
use Rattle.arrivals_text.specs.Counts.{arrivals_of}
use Rattle.request_text.specs.declared.Call.TheVariants.{Slot}
use Rattle.request_text.specs.declared.Line.{Line}
use Rattle.request_text.specs.declared.Line.TheVariants.{PassedOver, Makes, Malformed}
use Rattle.request_text.specs.Requests.{other_of}
use Rattle.call_text.specs.declared.Asked.{Asked}

-- A line with 64 zeros for arrivals, as each has but a slot.
unfoldable pub alone : Line → Asked
alone asked = record { line = asked; arrivals = replicate 64 0 }

-- A slot whose words give these arrivals.
unfoldable pub slot_with : ℕ → Bool × List ℕ → Asked
slot_with t (true, counts) = record { line = Makes (Slot t); arrivals = counts }
slot_with t (false, counts) = alone Malformed

-- slot T N=K N=K ..
unfoldable pub slot_line : List (List ℕ) → Asked
slot_line [] = alone Malformed
slot_line (word ∷ words) =
    cond (is_number word 4294967295) (slot_with (value_of word) (arrivals_of words)) (alone Malformed)

-- What words ask for: the first names it, the others are its operands.
unfoldable pub request_of : List (List ℕ) → Asked
request_of [] = alone PassedOver
request_of (name ∷ words) = cond (same name (letters "slot")) (slot_line words) (alone (other_of name words))

-- A line that begins with `#` is passed over, as one without words.
unfoldable pub asked_of : List ℕ → Asked
asked_of line = cond (eqb (get_or line 0 0) 35) (alone PassedOver) (request_of (words_of line))
