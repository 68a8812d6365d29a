-- The words that stand in a line from an index on.
use Prim.Native.Nat.{ℕ, zero, suc, ◌+◌, ◌-◌, ◌≤◌, ◌<◌}
use mathlib.Core.Path.{◌≡◌, refl, sym, ◌∙◌, ap}
use mathlib.Core.Bool.{Bool, not, true, false, true≢false}
use mathlib.Core.List.{List, [], ◌∷◌}
use mathlib.Core.Logic.{inl, inr}
use Rattle.std.specs.Prelude.{Option, Some, None}
use Rattle.std.specs.Option.{unwrap_or, is_some}
use lib.Dec.{eqb}
use lib.ListN.{length, get_or, take, drop, drop_of_length-le, length-drop}
use lib.Seq.{drop-cons}
use borrow.Author.Tests.{eq-eqb, ne_eqb, not-true, not-false}
use native.Mathlib.Nat.{eq-or-lt_of_le}
use native.Mathlib.Decide.{dec_lt}
use native.Mathlib.Numerals.{add-one}
use native.Mathlib.Omega.{arith}
use Rattle.line_words.specs.Parts.{onto, parts, first_part, reach, Reaches, FoundFrom}
use Rattle.line_words.specs.Words.{is_blank, is_letter, nonempty, words_of, none, word_start, word_end, NextWord}
use Rattle.line_words.proofs.Laws.Parts.{reach_reaches, reaches_once, parts_marked, parts_last}

-- A part that has a byte is a word.
part_word : (k : ℕ) (xs : List ℕ) (ps : List (List ℕ)) → 0 < k → 0 < length xs → nonempty (take k xs ∷ ps) ≡ take k xs ∷ nonempty ps
unfolding nonempty
part_word zero xs ps a b = absurd (omega arith)
part_word (suc k) [] ps a b = absurd (omega arith)
part_word (suc k) (x ∷ xs) ps a b = refl

begun : (c : ℕ) (ps : List (List ℕ)) → none (nonempty (onto c ps)) ≡ false
unfolding none nonempty onto
begun c [] = refl
begun c (p ∷ ps) = refl

-- A line whose first byte is no blank begins with its first word.
pub first_letter : (c : ℕ) (cs : List ℕ) → is_blank c ≡ false → get_or (first_part (words_of (c ∷ cs))) 0 0 ≡ c
unfolding words_of nonempty parts onto first_part
first_letter c cs e = rw e (go (parts is_blank cs))
  where
    go : (ps : List (List ℕ)) → get_or (first_part (nonempty (onto c ps))) 0 0 ≡ c
    go [] = refl
    go (p ∷ ps) = refl

module _ (line : List ℕ) where
  pub words_end : (r : ℕ) → length line ≤ r → words_of (drop r line) ≡ []
  unfolding words_of nonempty parts
  words_end r l = rw (drop_of_length-le line l)

  words_blank : (r : ℕ) → r < length line → is_blank (get_or line r 0) ≡ true → words_of (drop r line) ≡ words_of (drop (r + 1) line)
  unfolding words_of nonempty parts
  words_blank r l e = rw (drop-cons line r 0 l, e, add-one r)

  -- Blanks before a word change nothing.
  skipped : (n from r : ℕ) → r ≤ length line → ((i : ℕ) → from ≤ i → i < r → is_letter (get_or line i 0) ≡ false) → from + n ≡ r
      → words_of (drop from line) ≡ words_of (drop r line)
  skipped zero from r l none e = let same : from ≡ r = omega arith in rw same
  skipped (suc n) from r l none e =
      words_blank from (omega arith) (not-false _ (none from (omega arith) (omega arith)))
      ∙ skipped n (from + 1) r l (λ i a b. none i (omega arith) b) (omega arith)

  words_from : (from r : ℕ) → Reaches is_letter line from r → words_of (drop from line) ≡ words_of (drop r line)
  words_from from r w = elim (dec_lt r from) [
    | yes l ↦ words_end from (omega (arith, w.onward)) ∙ sym (words_end r (omega (arith, w.onward)))
    | no l ↦ skipped (r - from) from r w.within w.passed (omega arith)
  ]

  -- A word that begins at an index and ends behind it, and the words behind that.
  longer : (start end : ℕ) → start < length line → is_blank (get_or line start 0) ≡ false → Reaches is_blank line start end → start < end
  longer start end l e w = elim (eq-or-lt_of_le {n = start} {m = end} (omega (arith, w.onward))) [
    | inl q ↦ absurd (true≢false (sym (w.marked (omega arith)) ∙ rw (← q) e))
    | inr m ↦ m
  ]

  word_at_lem : (start end : ℕ) → start < length line → start < end → Reaches is_blank line start end
      → words_of (drop start line) ≡ take (end - start) (drop start line) ∷ words_of (drop end line)
  unfolding words_of nonempty
  word_at_lem start end l m w = elim (eq-or-lt_of_le {n = end} {m = length line} w.within) [
    | inl q ↦ rw (parts_last is_blank line start end w (omega arith) (omega arith), first [], words_end end (omega arith))
    | inr n ↦ rw (parts_marked is_blank line start end w (omega arith) n, first (parts is_blank (drop (end + 1) line)), words_blank end n (w.marked n))
  ]
    where
      first : (ps : List (List ℕ)) → nonempty (take (end - start) (drop start line) ∷ ps) ≡ take (end - start) (drop start line) ∷ nonempty ps
      first ps = part_word (end - start) (drop start line) ps (omega arith) (rw (length-drop start line) (omega arith))

  -- Two scans find it where the definition has it.
  begins_at : (from start : ℕ) → Reaches is_letter line from start → start ≡ word_start line from
  unfolding word_start
  begins_at from start a = reaches_once is_letter line from start _ a (reach_reaches is_letter line from)

  ends_at : (from start end : ℕ) → Reaches is_letter line from start → Reaches is_blank line start end → end ≡ word_end line from
  unfolding word_end
  ends_at from start end a b =
      reaches_once is_blank line start end _ b (reach_reaches is_blank line start) ∙ ap (λ (k : ℕ). reach is_blank line k) (begins_at from start a)

  pub word_found : (from start end : ℕ) → Reaches is_letter line from start → Reaches is_blank line start end → NextWord line from start end
  word_found from start end a b = elim (eq-or-lt_of_le {n = start} {m = length line} a.within) [
    | inl q ↦ record {
      begins = begins_at from start a;
      ends = ends_at from start end a b;
      onward = a.onward;
      ordered = omega (arith, b.onward);
      within = b.within;
      words = words_from from start a ∙ words_end start (omega arith) ∙ rw (eq-eqb start end (omega (arith, b.onward, b.within)));
      last = λ e. omega (arith, q, e);
    }
    | inr l ↦
        let m : start < end = longer start end l (not-true _ (a.marked l)) b in
        record {
          begins = begins_at from start a;
          ends = ends_at from start end a b;
          onward = a.onward;
          ordered = omega arith;
          within = b.within;
          words = words_from from start a ∙ word_at_lem start end l m b ∙ rw (ne_eqb start end (λ q. absurd (omega arith)));
          last = λ e. absurd (omega (arith, m, e));
        }
  ]

  -- What the searches for the two tell of the word.
  pub word_none : (from : ℕ) → FoundFrom is_letter line from None → NextWord line from (length line) (length line)
  word_none from a = word_found from _ _ a (record { onward = omega arith; within = omega arith; passed = λ i a b. absurd (omega arith); marked = λ m. absurd (omega arith) })

  pub word_some : (from start : ℕ) (o : Option ℕ) → FoundFrom is_letter line from (Some start) → FoundFrom is_blank line start o
      → (start < unwrap_or o (length line)) × NextWord line from start (unwrap_or o (length line))
  word_some from start o a b = go o b
    where
      end_is : (end : ℕ) → Reaches is_blank line start end → (start < end) × NextWord line from start end
      end_is end b = (longer start end a.0 (not-true _ (a.1.marked a.0)) b, word_found from start end a.1 b)

      go : (o : Option ℕ) → FoundFrom is_blank line start o → (start < unwrap_or o (length line)) × NextWord line from start (unwrap_or o (length line))
      go (Some end) b = end_is end b.1
      go None b = end_is (length line) b

  pub word_at_is : (from : ℕ) → NextWord line from (word_start line from) (word_end line from)
  unfolding word_start word_end
  word_at_is from = word_found from _ _ (reach_reaches is_letter line from) (reach_reaches is_blank line (word_start line from))

  -- No word is left just where the scan for one ends with the line.
  ends_none : (from r : ℕ) → Reaches is_letter line from r → eqb r (length line) ≡ none (words_of (drop from line))
  unfolding none words_of parts
  ends_none from r w = elim (eq-or-lt_of_le {n = r} {m = length line} w.within) [
    | inl q ↦ rw (words_from from r w, words_end r (omega arith), eq-eqb r (length line) q)
    | inr l ↦ rw (
      words_from from r w,
      ne_eqb r (length line) (λ q. absurd (omega arith)),
      drop-cons line r 0 l,
      not-true (is_blank (get_or line r 0)) (w.marked l),
      begun (get_or line r 0) (parts is_blank (drop (suc r) line)),
    )
  ]

  pub none_found : (from : ℕ) (o : Option ℕ) → FoundFrom is_letter line from o → (b : Bool) → is_some o ≡ not b → b ≡ none (words_of (drop from line))
  none_found from None a true e = sym (eq-eqb (length line) (length line) refl) ∙ ends_none from (length line) a
  none_found from None a false e = absurd (true≢false (sym e))
  none_found from (Some r) a true e = absurd (true≢false e)
  none_found from (Some r) a false e = sym (ne_eqb r (length line) (λ q. absurd (omega (arith, a.0)))) ∙ ends_none from r a.1

  -- The first of the words from an index on, or none.
  module _ (from start end : ℕ) (w : NextWord line from start end) where
    pub first_word : (start ≡ end → ⊥) → words_of (drop from line) ≡ take (end - start) (drop start line) ∷ words_of (drop end line)
    first_word n = w.words ∙ rw (ne_eqb start end n)

    pub no_word : start ≡ end → words_of (drop from line) ≡ []
    no_word q = w.words ∙ rw (eq-eqb start end q)
