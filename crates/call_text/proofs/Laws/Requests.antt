-- What the first word of a line asks for, and a slot by its words.
use Prim.Native.Nat.{ℕ, ◌-◌, ◌<◌}
use mathlib.Core.Path.{◌≡◌, refl, sym, ◌∙◌, ap}
use mathlib.Core.Bool.{Bool, true, false, cond, true≢false}
use mathlib.Core.List.{List, [], ◌∷◌}
use lib.Dec.{eqb}
use lib.ListN.{length, get_or, take, drop, replicate}
use native.Mathlib.Omega.{arith}
use Rattle.text.specs.Letters.{letters}
use Rattle.text.specs.Decimal.{value_of, is_number}
use Rattle.line_words.specs.Words.{words_of, operand_of, NextWord}
use Rattle.lists.specs.Lists.{same}
use Rattle.line_words.proofs.Laws.Words.{first_word, no_word}
use Rattle.arrivals_text.specs.Counts.{arrivals_of}
use Rattle.request_text.specs.Requests.{other_of}
use Rattle.request_text.specs.declared.Call.TheVariants.{Slot}
use Rattle.request_text.specs.declared.Line.TheVariants.{PassedOver, Makes, Malformed}
use Rattle.call_text.specs.declared.Asked.{Asked}
use Rattle.call_text.specs.Lines.{alone, slot_with, slot_line, request_of, asked_of}

-- What a slot's number and its counts make.
abbrev Read : Type 0
Read = Bool × ℕ × List (List ℕ)

module _ (t : ℕ) (rest words : List (List ℕ)) where
  pub slot_unnumbered : (false, t, rest) ≡ operand_of words 4294967295 → alone Malformed ≡ slot_line words
  unfolding operand_of slot_line
  slot_unnumbered e = go words e
    where
      go : (words : List (List ℕ)) → (false, t, rest) ≡ operand_of words 4294967295 → alone Malformed ≡ slot_line words
      go [] e = refl
      go (word ∷ words) e = each (is_number word 4294967295) e
        where
          each : (b : Bool) → ◌≡◌ {A = Read} (false, t, rest) (cond b (true, value_of word, words) (false, 0, []))
              → alone Malformed ≡ cond b (slot_with (value_of word) (arrivals_of words)) (alone Malformed)
          each true e = absurd (true≢false (sym (ap (λ (x : Read). x.0) e)))
          each false e = refl

  slot_numbered : (true, t, rest) ≡ operand_of words 4294967295 → slot_with t (arrivals_of rest) ≡ slot_line words
  unfolding operand_of slot_line
  slot_numbered e = go words e
    where
      go : (words : List (List ℕ)) → (true, t, rest) ≡ operand_of words 4294967295 → slot_with t (arrivals_of rest) ≡ slot_line words
      go [] e = absurd (true≢false (ap (λ (x : Read). x.0) e))
      go (word ∷ words) e = each (is_number word 4294967295) e
        where
          each : (b : Bool) → ◌≡◌ {A = Read} (true, t, rest) (cond b (true, value_of word, words) (false, 0, []))
              → slot_with t (arrivals_of rest) ≡ cond b (slot_with (value_of word) (arrivals_of words)) (alone Malformed)
          each true e = ap (λ (x : Read). slot_with x.1 (arrivals_of x.2)) e
          each false e = absurd (true≢false (ap (λ (x : Read). x.0) e))

  module _ (number : (true, t, rest) ≡ operand_of words 4294967295) where
    pub slot_refused : (false, replicate 64 0) ≡ arrivals_of rest → alone Malformed ≡ slot_line words
    unfolding slot_with
    slot_refused read = ap (λ (x : Bool × List ℕ). slot_with t x) read ∙ slot_numbered number

    pub slot_made : (counts : List ℕ) → (true, counts) ≡ arrivals_of rest → ◌≡◌ {A = Asked} (record { line = Makes (Slot t); arrivals = counts }) (slot_line words)
    unfolding slot_with
    slot_made counts read = ap (λ (x : Bool × List ℕ). slot_with t x) read ∙ slot_numbered number

-- A line that is passed over, and one that its first word names.
module _ (line : List ℕ) where
  pub asked_remark : true ≡ eqb (get_or line 0 0) 35 → alone PassedOver ≡ asked_of line
  unfolding asked_of
  asked_remark e = rw (← e) refl

  module _ (remark : false ≡ eqb (get_or line 0 0) 35) where
    pub asked_nothing : NextWord line 0 (length line) (length line) → alone PassedOver ≡ asked_of line
    unfolding asked_of request_of
    asked_nothing w = rw (sym remark, no_word line 0 (length line) (length line) w refl) refl

    module _ (start end : ℕ) (w : (start < end) × NextWord line 0 start end) where
      named : words_of line ≡ take (end - start) (drop start line) ∷ words_of (drop end line)
      named = first_word line 0 start end w.1 (λ q. absurd (omega (arith, w.0)))

      pub asked_slot : true ≡ same (take (end - start) (drop start line)) (letters "slot") → slot_line (words_of (drop end line)) ≡ asked_of line
      unfolding asked_of request_of
      asked_slot e = rw (sym remark, named, sym e) refl

      pub asked_other : false ≡ same (take (end - start) (drop start line)) (letters "slot")
          → alone (other_of (take (end - start) (drop start line)) (words_of (drop end line))) ≡ asked_of line
      unfolding asked_of request_of
      asked_other e = rw (sym remark, named, sym e) refl
