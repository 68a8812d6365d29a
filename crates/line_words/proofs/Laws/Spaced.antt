-- A word and numbers behind it, with a space before each, are read as they were printed.
use Prim.Native.Nat.{ℕ, ◌+◌, ◌/◌, ◌%◌, ◌≤◌}
use mathlib.Core.Path.{◌≡◌, refl, sym, ◌∙◌, ap}
use mathlib.Core.Bool.{Bool, true, false, true≢false}
use mathlib.Core.List.{List, [], ◌∷◌, ◌++◌, map}
use native.Mathlib.Omega.{arith}
use borrow.Author.Tests.{ne_eqb}
use Rattle.text.specs.Decimal.{decimal, given}
use Rattle.text.specs.Listed.{each, spaced_decimal}
use Rattle.text.specs.Put.{text_of}
use Rattle.text.proofs.Laws.Decimal.{by_digits, decimal_one, decimal_step, decimal_given}
use Rattle.line_words.specs.Parts.{parts}
use Rattle.line_words.specs.Words.{is_blank, nonempty, words_of}
use Rattle.line_words.proofs.Laws.Parts.{unmarked, unmarked_append, unmarked_first}

-- Where no digit is marked, no byte of a number is; where a space is not either, none of such numbers.
module _ (mark : ℕ → Bool) (digit : (c : ℕ) → 48 ≤ c → c ≤ 57 → mark c ≡ false) where
  pub unmarked_decimal : (n : ℕ) → unmarked mark (decimal n) ≡ true
  unfolding unmarked
  unmarked_decimal = by_digits (λ (n : ℕ). unmarked mark (decimal n) ≡ true)
      (λ n l. rw (decimal_one n l, digit (48 + n) (omega arith) (omega arith)))
      (λ n l e. rw (decimal_step n l) (unmarked_append mark (decimal (n / 10)) _ e (rw (digit (48 + n % 10) (omega arith) (omega arith)))))

  pub unmarked_spaced : mark 32 ≡ false → (ns : List ℕ) → unmarked mark (text_of (each spaced_decimal ns)) ≡ true
  unfolding unmarked text_of each spaced_decimal
  unmarked_spaced space [] = refl
  unmarked_spaced space (n ∷ ns) = rw space (unmarked_append mark (decimal n) (text_of (each spaced_decimal ns)) (unmarked_decimal n) (unmarked_spaced space ns))

digit_letter : (c : ℕ) → 48 ≤ c → c ≤ 57 → is_blank c ≡ false
unfolding is_blank
digit_letter c a b = rw (ne_eqb c 32 (λ e. absurd (omega arith)), ne_eqb c 9 (λ e. absurd (omega arith)), ne_eqb c 13 (λ e. absurd (omega arith)))

-- The words are the first one and the digits of each number.
word_first : (w : List ℕ) (ps : List (List ℕ)) → given w ≡ true → nonempty (w ∷ ps) ≡ w ∷ nonempty ps
unfolding nonempty given
word_first [] ps g = absurd (true≢false (sym g))
word_first (c ∷ cs) ps g = refl

pub words_spaced : (w : List ℕ) (ns : List ℕ) → given w ≡ true → unmarked is_blank w ≡ true → words_of (w ++ text_of (each spaced_decimal ns)) ≡ w ∷ map decimal ns
unfolding words_of nonempty parts is_blank text_of each spaced_decimal
words_spaced w [] g u = rw (unmarked_first is_blank w [] [] u refl) (word_first w [] g)
words_spaced w (n ∷ ns) g u =
    let rest : List ℕ = decimal n ++ text_of (each spaced_decimal ns) in
    rw (unmarked_first is_blank w (32 ∷ rest) (parts is_blank rest) u refl) (word_first w (parts is_blank rest) g)
    ∙ ap (λ (ws : List (List ℕ)). w ∷ ws) (words_spaced (decimal n) ns (decimal_given n) (unmarked_decimal is_blank digit_letter n))
