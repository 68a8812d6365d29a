-- Lines in plain words: what an admission and a slot ask for.
use Prim.Native.Nat.{ℕ, ◌≤◌}
use mathlib.Core.Path.{◌≡◌, refl, sym, ◌∙◌, ap}
use mathlib.Core.Bool.{Bool, true, false, cond}
use mathlib.Core.List.{List, [], ◌∷◌, ◌++◌}
use lib.Dec.{eqb}
use lib.ListN.{length, get_or}
use borrow.Author.Tests.{ne_eqb}
use native.Mathlib.Omega.{arith}
use Rattle.text.specs.Letters.{letters}
use Rattle.text.specs.Decimal.{decimal, value_of, given, is_number}
use Rattle.text.specs.Put.{text_of}
use Rattle.text.specs.Listed.{each, spaced_decimal}
use Rattle.text.proofs.Laws.Decimal.{decimal_value, decimal_number}
use Rattle.line_words.specs.Parts.{first_part}
use Rattle.line_words.specs.Words.{is_blank, words_of, none, said}
use Rattle.lists.specs.Lists.{same}
use Rattle.line_words.proofs.Laws.Words.{first_letter}
use Rattle.line_words.proofs.Laws.Parts.{unmarked}
use Rattle.line_words.proofs.Laws.Spaced.{words_spaced}
use Rattle.arrivals_text.specs.Counts.{arrivals_of}
use Rattle.arrivals_text.proofs.Laws.Packets.{arrivals_long}
use Rattle.request_text.specs.declared.Call.TheVariants.{Slot, Admit}
use Rattle.request_text.specs.declared.Line.TheVariants.{Makes}
use Rattle.request_text.specs.Requests.{numbers, admit_line, other_of}
use Rattle.call_text.specs.declared.Asked.{Asked}
use Rattle.call_text.specs.Lines.{alone, slot_with, slot_line, request_of, asked_of}

-- A line asks for what its words ask for, unless the first of them begins with `#`.
by_words : (line name : List ℕ) (words : List (List ℕ)) → words_of line ≡ name ∷ words → (get_or name 0 0 ≡ 35 → ⊥) → asked_of line ≡ request_of (name ∷ words)
unfolding asked_of is_blank first_part
by_words line name words e n = rw (ne_eqb (get_or line 0 0) 35 (λ q. n (begins line e q)), e)
  where
    begins : (line : List ℕ) → words_of line ≡ name ∷ words → get_or line 0 0 ≡ 35 → get_or name 0 0 ≡ 35
    begins [] e q = absurd (omega arith)
    begins (c ∷ cs) e q = sym (ap (λ (ws : List (List ℕ)). get_or (first_part ws) 0 0) e) ∙ first_letter c cs (rw q) ∙ q

-- The word admit and four numbers within their limits ask for that admission.
pub admit_line_lem : (line : List ℕ) (number entry rate deadline : ℕ) → number ≤ 255 → entry ≤ 255 → rate ≤ 255 → deadline ≤ 65535
    → words_of line ≡ letters "admit" ∷ decimal number ∷ decimal entry ∷ decimal rate ∷ decimal deadline ∷ []
    → asked_of line ≡ alone (Makes (Admit (record { number = number; entry = entry; rate = rate; deadline = deadline })))
unfolding request_of other_of admit_line same none numbers said
admit_line_lem line number entry rate deadline n e r d ws =
    by_words line _ _ ws (λ q. absurd (omega arith))
    ∙ rw (
      decimal_number number 255 n,
      decimal_number entry 255 e,
      decimal_number rate 255 r,
      decimal_number deadline 65535 d,
      decimal_value number,
      decimal_value entry,
      decimal_value rate,
      decimal_value deadline,
    )

-- So does such a line as it is typed, with one space before each number.
pub admit_typed : (number entry rate deadline : ℕ) → number ≤ 255 → entry ≤ 255 → rate ≤ 255 → deadline ≤ 65535
    → asked_of (letters "admit" ++ text_of (each spaced_decimal (number ∷ entry ∷ rate ∷ deadline ∷ [])))
    ≡ alone (Makes (Admit (record { number = number; entry = entry; rate = rate; deadline = deadline })))
unfolding given unmarked is_blank
admit_typed number entry rate deadline n e r d =
    admit_line_lem _ number entry rate deadline n e r d (words_spaced (letters "admit") (number ∷ entry ∷ rate ∷ deadline ∷ []) refl refl)

-- The word slot, a number and words that give arrivals ask for that slot.
pub slot_line_lem : (line counts : List ℕ) (t : ℕ) (words : List (List ℕ)) → t ≤ 4294967295 → arrivals_of words ≡ (true, counts)
    → words_of line ≡ letters "slot" ∷ decimal t ∷ words → asked_of line ≡ record { line = Makes (Slot t); arrivals = counts }
unfolding request_of slot_line slot_with same
slot_line_lem line counts t words l a ws = by_words line _ _ ws (λ q. absurd (omega arith)) ∙ rw (decimal_number t 4294967295 l, decimal_value t, a)

with_long : (t : ℕ) (x : Bool × List ℕ) → length x.1 ≡ 64 → length (slot_with t x).arrivals ≡ 64
unfolding slot_with alone
with_long t (true, counts) e = e
with_long t (false, counts) e = refl

either_long : (b : Bool) (x y : Asked) → length x.arrivals ≡ 64 → length y.arrivals ≡ 64 → length (cond b x y).arrivals ≡ 64
either_long true x y e f = e
either_long false x y e f = f

slot_long : (words : List (List ℕ)) → length (slot_line words).arrivals ≡ 64
unfolding slot_line alone
slot_long [] = refl
slot_long (word ∷ words) = either_long (is_number word 4294967295) _ _ (with_long (value_of word) (arrivals_of words) (arrivals_long words)) refl

request_long : (words : List (List ℕ)) → length (request_of words).arrivals ≡ 64
unfolding request_of alone
request_long [] = refl
request_long (name ∷ words) = either_long (same name (letters "slot")) _ _ (slot_long words) refl

-- Every line brings 64 arrivals.
pub slot_arrivals : (line : List ℕ) → length (asked_of line).arrivals ≡ 64
unfolding asked_of alone
slot_arrivals line = either_long (eqb (get_or line 0 0) 35) _ _ refl (request_long (words_of line))
