-- Words that are numbers, digit by digit, and operands.
use Prim.Native.Nat.{ℕ, suc, ◌+◌, ◌-◌, ◌*◌, ◌≤◌, ◌<◌}
use mathlib.Core.Path.{◌≡◌, refl, sym, ◌∙◌, ap}
use mathlib.Core.Bool.{Bool, true, false, cond, ◌&&◌, true≢false}
use mathlib.Core.List.{List, [], ◌∷◌}
use Rattle.std.specs.Prelude.{Option, Some, None, IfSome}
use Rattle.std.specs.Option.{option_map}
use Rattle.std.specs.Bool.{then_some}
use lib.Dec.{eqb, ltb, leb}
use lib.ListN.{length, get_or, take, drop, drop_of_length-le}
use lib.Seq.{drop-cons}
use borrow.Author.Tests.{le-leb, lt-leb, leb-true, lt-ltb}
use native.Mathlib.Numerals.{add-one}
use native.Mathlib.Omega.{arith}
use Rattle.text.specs.Decimal.{value_from, value_of, is_digit, all_digits, given, is_number}
use Rattle.line_words.specs.declared.Operand.{Operand}
use Rattle.line_words.specs.Words.{words_of, operand_of, word_start, word_end, word_at, operand_at, operand_told, NextWord}
use Rattle.line_words.proofs.Laws.Words.{word_at_is, first_word}

-- The first i bytes of a word are digits that say `value`: what the others say after it is what the word says.
pub record Reads (word : List ℕ) (most i value : ℕ) : Type 0 where
  pub few : i ≤ length word
  pub small : value ≤ most
  pub rest : value_from value (drop i word) ≡ value_of word
  pub digits : all_digits (drop i word) ≡ all_digits word

-- A word that is no number gives none.
pub record NoNumber (word : List ℕ) (most : ℕ) : Type 0 where
  pub isnt : is_number word most ≡ false

value_grows : (v : ℕ) (cs : List ℕ) → v ≤ value_from v cs
unfolding value_from
value_grows v [] = omega arith
value_grows v (c ∷ cs) = omega (arith, value_grows (v * 10 + (c - 48)) cs)

no_digits : (word : List ℕ) (most : ℕ) → all_digits word ≡ false → is_number word most ≡ false
unfolding is_number
no_digits word most e = go (given word)
  where
    go : (g : Bool) → (g && all_digits word && leb (value_of word) most) ≡ false
    go true = rw e
    go false = refl

too_large : (word : List ℕ) (most : ℕ) → most < value_of word → is_number word most ≡ false
unfolding is_number
too_large word most l = go (given word) (all_digits word)
  where
    go : (g d : Bool) → (g && d && leb (value_of word) most) ≡ false
    go true true = rw (lt-leb _ _ l)
    go true false = refl
    go false d = refl

pub number_small : (word : List ℕ) (most : ℕ) → is_number word most ≡ true → value_of word ≤ most
unfolding is_number
number_small word most e = go (given word) (all_digits word) e
  where
    go : (g d : Bool) → (g && d && leb (value_of word) most) ≡ true → value_of word ≤ most
    go true true e = leb-true _ _ e
    go true false e = absurd (true≢false (sym e))
    go false d e = absurd (true≢false (sym e))

module _ (word : List ℕ) (most : ℕ) where
  pub reads_start : Reads word most 0 0
  unfolding value_of
  reads_start = record { few = omega arith; small = omega arith; rest = refl; digits = refl }

  pub not_digit : (i value : ℕ) → Reads word most i value → i < length word → is_digit (get_or word i 0) ≡ false → NoNumber word most
  unfolding all_digits
  not_digit i value r l n = record { isnt = no_digits word most (sym r.digits ∙ rw (drop-cons word i 0 l, n)) }

  next_value : (i value : ℕ) → Reads word most i value → i < length word
      → value_from (value * 10 + (get_or word i 0 - 48)) (drop (i + 1) word) ≡ value_of word
  unfolding value_from
  next_value i value r l = rw (add-one i) (sym (ap (λ (cs : List ℕ). value_from value cs) (drop-cons word i 0 l)) ∙ r.rest)

  pub large_value : (i value : ℕ) → Reads word most i value → i < length word → most < value * 10 + (get_or word i 0 - 48) → NoNumber word most
  large_value i value r l m = record {
    isnt = too_large word most (omega (arith, next_value i value r l, value_grows (value * 10 + (get_or word i 0 - 48)) (drop (i + 1) word)));
  }

  pub reads_more : (i value : ℕ) → Reads word most i value → i < length word → is_digit (get_or word i 0) ≡ true
      → value * 10 + (get_or word i 0 - 48) ≤ most → Reads word most (i + 1) (value * 10 + (get_or word i 0 - 48))
  unfolding all_digits
  reads_more i value r l d m = record {
    few = omega arith;
    small = m;
    rest = next_value i value r l;
    digits = rw (add-one i) (sym (rw (drop-cons word i 0 l, d)) ∙ r.digits);
  }

  pub no_number : NoNumber word most → None ≡ cond (is_number word most) (Some (value_of word)) None
  no_number w = rw w.isnt refl

  -- All bytes are digits: the word is a number, unless it has none.
  pub reads_all : (i value : ℕ) → Reads word most i value → length word ≤ i
      → then_some (ltb 0 (length word)) value ≡ cond (is_number word most) (Some (value_of word)) None
  unfolding is_number value_from all_digits given value_of
  reads_all i value r l =
      let value_is : value ≡ value_of word = sym (ap (λ (cs : List ℕ). value_from value cs) (drop_of_length-le word l)) ∙ r.rest in
      let all : all_digits word ≡ true = sym r.digits ∙ rw (drop_of_length-le word l) in
      rw (all, le-leb (value_of word) most (omega (arith, r.small))) (go word value_is)
    where
      go : (w : List ℕ) → value ≡ value_of w → then_some (ltb 0 (length w)) value ≡ cond (given w && true && true) (Some (value_of w)) None
      go [] e = refl
      go (c ∷ cs) e = rw (lt-ltb 0 (suc (length cs)) (omega arith), e)

-- The next word of a line, read as a number, is the operand of the definition, with the index behind that word.
module _ (line : List ℕ) (from start end most : ℕ) (w : NextWord line from start end) where
  word_is : take (end - start) (drop start line) ≡ word_at line from
  unfolding word_at
  word_is = rw (w.begins, w.ends)

  abbrev with_next : ℕ → Operand
  with_next v = record { value = v; next = end }

  pub operand_read : (n : Option ℕ) → n ≡ cond (is_number (take (end - start) (drop start line)) most) (Some (value_of (take (end - start) (drop start line)))) None
      → option_map with_next n ≡ operand_at line from most
  unfolding operand_at
  operand_read n e =
      rw (e, word_is) (go (is_number (word_at line from) most)
      ∙ ap (λ (k : ℕ). cond (is_number (word_at line from) most) (Some (record { value = value_of (word_at line from); next = k })) None) w.ends)
    where
      go : (b : Bool) → option_map with_next (cond b (Some (value_of (word_at line from))) None)
          ≡ cond b (Some (record { value = value_of (word_at line from); next = end })) None
      go true = refl
      go false = refl

abbrev operand_if : List ℕ → ℕ → Bool → Option Operand
operand_if line from b = cond b (Some (record { value = value_of (word_at line from); next = word_end line from })) None

-- What that is in the words of the line: its number is the first of them, and the others stand behind it.
module _ (line : List ℕ) (from most : ℕ) where
  read_none : is_number (word_at line from) most ≡ false → operand_of (words_of (drop from line)) most ≡ (false, 0, [])
  unfolding operand_of word_at
  read_none f = rw (word_at_is line from).words (go (eqb (word_start line from) (word_end line from)))
    where
      go : (b : Bool) → operand_of (cond b [] (word_at line from ∷ words_of (drop (word_end line from) line))) most ≡ (false, 0, [])
      go true = refl
      go false = rw f

  read_some : is_number (word_at line from) most ≡ true
      → operand_of (words_of (drop from line)) most ≡ (true, value_of (word_at line from), words_of (drop (word_end line from) line))
  unfolding operand_of word_at is_number given
  read_some t = rw (first_word line from _ _ (word_at_is line from) apart, t)
    where
      apart : word_start line from ≡ word_end line from → ⊥
      apart q = let none : word_end line from - word_start line from ≡ 0 = omega arith in true≢false (sym t ∙ rw none)

  pub operand_ensured : (r : Option Operand) → r ≡ operand_at line from most
      → (operand_told line r ≡ operand_of (words_of (drop from line)) most)
      × IfSome r (λ o. (o.value ≤ most) × (o.next ≤ length line)) × (r ≡ operand_at line from most)
  unfolding operand_at
  operand_ensured r e = rw e (go (is_number (word_at line from) most) refl)
    where
      go : (b : Bool) → is_number (word_at line from) most ≡ b
          → (operand_told line (operand_if line from b) ≡ operand_of (words_of (drop from line)) most)
          × IfSome (operand_if line from b) (λ o. (o.value ≤ most) × (o.next ≤ length line)) × (operand_if line from b ≡ operand_if line from b)
      go true t = (sym (read_some t), (number_small (word_at line from) most t, (word_at_is line from).within), refl)
      go false f = (sym (read_none f), tt, refl)

  -- Where no word is left, there is no operand.
  pub operand_missing : NextWord line from (length line) (length line) → None ≡ operand_at line from most
  unfolding operand_at word_at is_number given
  operand_missing w = rw (← w.begins, ← w.ends) (let none : length line - length line ≡ 0 = omega arith in rw none refl)
