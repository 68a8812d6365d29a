-- The words N=K of a slot, one by one.
use Prim.Native.Nat.{ℕ, ◌+◌, ◌-◌, ◌≤◌, ◌<◌}
use mathlib.Core.Path.{◌≡◌, refl, sym, ◌∙◌, ap}
use mathlib.Core.Bool.{Bool, true, false, cond, not, ◌&&◌, and-false}
use mathlib.Core.List.{List, [], ◌∷◌}
use lib.ListN.{length, get_or, take, drop, set, replicate, length-take, length-drop, length-set, drop_of_length-le}
use lib.Seq.{take_all}
use native.Mathlib.Omega.{arith}
use Rattle.std.specs.Prelude.{Option, Some, None}
use Rattle.std.proofs.lemmas.Option.{none-some, same_Some, some_pair_parts}
use Rattle.text.specs.Decimal.{value_of, is_number, given}
use Rattle.line_words.specs.Parts.{is, FoundFrom}
use Rattle.line_words.specs.Words.{words_of, NextWord}
use Rattle.line_words.proofs.Laws.Parts.{found_front}
use Rattle.line_words.proofs.Laws.Words.{no_word, first_word}
use Rattle.line_words.proofs.Laws.Numbers.{number_small}
use Rattle.arrivals_text.specs.Counts.{flow_part, count_part, is_new, put_count, put_name, counts_of, arrivals_of}
use Rattle.arrivals_text.specs.Inner.{arrival_of}

-- What the reading of a number tells.
abbrev Number : List ℕ → ℕ → Option ℕ → Type 0
Number word most o = o ≡ cond (is_number word most) (Some (value_of word)) None

module _ (word : List ℕ) (most : ℕ) where
  number_none : Number word most None → is_number word most ≡ false
  number_none e = go (is_number word most) e
    where
      go : (b : Bool) → None ≡ cond b (Some (value_of word)) None → b ≡ false
      go true e = absurd (none-some _ e)
      go false e = refl

  number_some : (v : ℕ) → Number word most (Some v) → (is_number word most ≡ true) × (v ≡ value_of word) × (v ≤ most)
  number_some v e = go (is_number word most) (λ t. number_small word most t) e
    where
      go : (b : Bool) → (b ≡ true → value_of word ≤ most) → Some v ≡ cond b (Some (value_of word)) None → (b ≡ true) × (v ≡ value_of word) × (v ≤ most)
      go true small e = let same : v ≡ value_of word = same_Some _ _ e in (refl, same, omega (arith, small refl))
      go false small e = absurd (none-some _ (sym e))

-- What is read of a word.
module _ (word : List ℕ) where
  -- Without an `=`, nothing is left for K.
  pub arrival_unsigned : FoundFrom (is 61) word 0 None → None ≡ arrival_of word
  unfolding arrival_of flow_part count_part is_number given
  arrival_unsigned f =
      let all : length (flow_part word) ≡ length word = ap (λ (w : List ℕ). length w) (found_front (is 61) word None f) ∙ length-take (length word) word ∙ omega arith in
      let behind : count_part word ≡ [] = drop_of_length-le word {i = length (flow_part word) + 1} (omega arith) in
      rw (behind, and-false (is_number (flow_part word) 63)) refl

  module _ (r : ℕ) (f : FoundFrom (is 61) word 0 (Some r)) where
    flow_is : flow_part word ≡ take r word
    unfolding flow_part
    flow_is = found_front (is 61) word (Some r) f

    count_is : count_part word ≡ take (length word - (r + 1)) (drop (r + 1) word)
    unfolding count_part
    count_is =
        let long : length (take r word) ≡ r = length-take r word ∙ omega (arith, f.0) in
        rw (flow_is, long) (sym (take_all (length word - (r + 1)) (drop (r + 1) word) (rw (length-drop (r + 1) word) (omega arith))))

    pub arrival_no_flow : Number (take r word) 63 None → None ≡ arrival_of word
    unfolding arrival_of
    arrival_no_flow n = rw (flow_is, number_none _ _ n) refl

    pub count_most : (k : ℕ) → Number (take (length word - (r + 1)) (drop (r + 1) word)) 65535 (Some k) → k ≤ 65535
    count_most k n = (number_some _ _ k n).2

    pub arrival_no_count : Number (take (length word - (r + 1)) (drop (r + 1) word)) 65535 None → None ≡ arrival_of word
    unfolding arrival_of
    arrival_no_count n = rw (count_is, number_none _ _ n, and-false (is_number (flow_part word) 63)) refl

    pub arrival_both : (n k : ℕ) → Number (take r word) 63 (Some n) → Number (take (length word - (r + 1)) (drop (r + 1) word)) 65535 (Some k)
        → (Some (n, k) ≡ arrival_of word) × (n < 64)
    unfolding arrival_of
    arrival_both n k a b =
        let flow = number_some _ _ n a in
        let count = number_some _ _ k b in
        (rw (flow.1, count.1, flow_is, count_is, flow.0, count.0) refl, omega (arith, flow.2))

  -- Whether it is a new one.
  pub old_word : (named : List Bool) → None ≡ arrival_of word → is_new word named ≡ false
  unfolding is_new arrival_of
  old_word named e = go (is_number (flow_part word) 63) (is_number (count_part word) 65535) e
    where
      go : (a b : Bool) → ◌≡◌ {A = Option (ℕ × ℕ)} None (cond (a && b) (Some (value_of (flow_part word), value_of (count_part word))) None)
          → (a && b && not (get_or named (value_of (flow_part word)) false)) ≡ false
      go true true e = absurd (none-some _ e)
      go true false e = refl
      go false b e = refl

  pub new_word : (named : List Bool) (n k : ℕ) → Some (n, k) ≡ arrival_of word
      → (is_new word named ≡ not (get_or named n false)) × (n ≡ value_of (flow_part word)) × (k ≡ value_of (count_part word))
  unfolding is_new arrival_of
  new_word named n k e = go (is_number (flow_part word) 63) (is_number (count_part word) 65535) e
    where
      go : (a b : Bool) → ◌≡◌ {A = Option (ℕ × ℕ)} (Some (n, k)) (cond (a && b) (Some (value_of (flow_part word), value_of (count_part word))) None)
          → ((a && b && not (get_or named (value_of (flow_part word)) false)) ≡ not (get_or named n false)) × (n ≡ value_of (flow_part word)) × (k ≡ value_of (count_part word))
      go true true e =
          let parts = some_pair_parts n (value_of (flow_part word)) k (value_of (count_part word)) e in
          (rw parts.0 refl, parts.0, parts.1)
      go true false e = absurd (none-some _ (sym e))
      go false b e = absurd (none-some _ (sym e))

-- What is left of the words of a slot from `at` on gives what all of them give.
pub record Reading (line : List ℕ) (from at : ℕ) (counts : List ℕ) (named : List Bool) : Type 0 where
  pub counts_long : length counts ≡ 64
  pub names_long : length named ≡ 64
  pub rest : counts_of (words_of (drop at line)) counts named ≡ arrivals_of (words_of (drop from line))

module _ (line : List ℕ) (from : ℕ) where
  pub reading_start : Reading line from from (replicate 64 0) (replicate 64 false)
  unfolding arrivals_of
  reading_start = record { counts_long = refl; names_long = refl; rest = refl }

  module _ (at : ℕ) (counts : List ℕ) (named : List Bool) (reading : Reading line from at counts named) where
    pub reading_end : NextWord line at (length line) (length line) → (true, counts) ≡ arrivals_of (words_of (drop from line))
    unfolding counts_of
    reading_end w = sym (ap (λ (ws : List (List ℕ)). counts_of ws counts named) (no_word line at _ _ w refl)) ∙ reading.rest

    module _ (start end : ℕ) (w : (start < end) × NextWord line at start end) where
      first : words_of (drop at line) ≡ take (end - start) (drop start line) ∷ words_of (drop end line)
      first = first_word line at start end w.1 (λ q. absurd (omega (arith, w.0)))

      stopped : is_new (take (end - start) (drop start line)) named ≡ false → (false, replicate 64 0) ≡ arrivals_of (words_of (drop from line))
      unfolding counts_of
      stopped n = sym (rw (first, n)) ∙ reading.rest

      pub reading_stopped : None ≡ arrival_of (take (end - start) (drop start line)) → (false, replicate 64 0) ≡ arrivals_of (words_of (drop from line))
      reading_stopped e = stopped (old_word _ named e)

      module _ (n k : ℕ) (e : ◌≡◌ {A = Option (ℕ × ℕ)} (Some (n, k)) (arrival_of (take (end - start) (drop start line)))) where
        pub reading_again : get_or named n false ≡ true → (false, replicate 64 0) ≡ arrivals_of (words_of (drop from line))
        reading_again t = stopped ((new_word _ named n k e).0 ∙ ap not t)

        pub reading_more : get_or named n false ≡ false → Reading line from end (set counts n k) (set named n true)
        unfolding counts_of put_count put_name
        reading_more t =
            let new = new_word _ named n k e in
            record {
              counts_long = length-set counts n k ∙ reading.counts_long;
              names_long = length-set named n true ∙ reading.names_long;
              rest = rw (new.1, new.2) (sym (rw (first, new.0 ∙ ap not t)) ∙ reading.rest);
            }
