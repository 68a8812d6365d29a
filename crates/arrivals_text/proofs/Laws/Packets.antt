-- The packets that words N=K give: K for the flow of each of them, 0 for every other.
use Prim.Native.Nat.{ℕ, zero, suc, ◌<◌}
use mathlib.Core.Path.{◌≡◌, refl, sym, ◌∙◌, ap}
use mathlib.Core.Bool.{Bool, true, false, cond, not, ◌&&◌, true≢false}
use mathlib.Core.List.{List, [], ◌∷◌, ◌++◌}
use lib.ListN.{length, get_or, replicate, length-set, get_or-replicate}
use lib.Seq.{drop-append-add, get_or-set_same, get_or-set_other}
use borrow.Author.Tests.{ne_eqb}
use native.Mathlib.Omega.{arith}
use Rattle.text.specs.Decimal.{decimal, value_of, is_number}
use Rattle.line_words.specs.Parts.{parts, first_part, before, is}
use Rattle.line_words.proofs.Laws.Numbers.{number_small}
use Rattle.line_words.proofs.Laws.Parts.{unmarked, unmarked_first}
use Rattle.line_words.proofs.Laws.Spaced.{unmarked_decimal}
use Rattle.arrivals_text.specs.Counts.{flow_part, count_part, is_new, put_count, put_name, counts_of, arrivals_of}

-- The parts of a word that is written as N=K; 61 is the byte of `=`.
module _ (n k : ℕ) where
  pub written_flow : flow_part (decimal n ++ 61 ∷ decimal k) ≡ decimal n
  unfolding flow_part before first_part parts
  written_flow =
      let plain : unmarked (is 61) (decimal n) ≡ true = unmarked_decimal (is 61) (λ c a b. ne_eqb c 61 (λ e. absurd (omega arith))) n in
      rw (unmarked_first (is 61) (decimal n) (61 ∷ decimal k) (parts (is 61) (decimal k)) plain refl)

  pub written_count : count_part (decimal n ++ 61 ∷ decimal k) ≡ decimal k
  unfolding count_part
  written_count = rw (written_flow, drop-append-add (decimal n) (61 ∷ decimal k) 1)

-- One word N=K that is taken: N was not named before, and it is one of the 64.
module _ (word : List ℕ) (named : List Bool) (new : is_new word named ≡ true) where
  new_parts : (is_number (flow_part word) 63 ≡ true) × (get_or named (value_of (flow_part word)) false ≡ false)
  unfolding is_new
  new_parts = go (is_number (flow_part word) 63) (is_number (count_part word) 65535) (get_or named (value_of (flow_part word)) false) new
    where
      go : (f k n : Bool) → (f && k && not n) ≡ true → (f ≡ true) × (n ≡ false)
      go true true false e = (refl, refl)
      go true true true e = absurd (true≢false (sym e))
      go true false n e = absurd (true≢false (sym e))
      go false k n e = absurd (true≢false (sym e))

  flow_below : value_of (flow_part word) < 64
  flow_below = omega (arith, number_small (flow_part word) 63 new_parts.0)

-- Words after which all arrivals are given: each of them was taken.
abbrev Given : List (List ℕ) → List ℕ → List Bool → List ℕ → Type 0
Given words counts named all = counts_of words counts named ≡ (true, all)

first_taken : (word counts all : List ℕ) (words : List (List ℕ)) (named : List Bool) → Given (word ∷ words) counts named all
    → (is_new word named ≡ true) × Given words (put_count word counts) (put_name word named) all
unfolding counts_of
first_taken word counts all words named e = go (is_new word named) e
  where
    go : (b : Bool) → ◌≡◌ {A = Bool × List ℕ} (cond b (counts_of words (put_count word counts) (put_name word named)) (false, replicate 64 0)) (true, all)
        → (b ≡ true) × Given words (put_count word counts) (put_name word named) all
    go true e = (refl, e)
    go false e = absurd (true≢false (sym (ap (λ (x : Bool × List ℕ). x.0) e)))

-- Once a flow is named, its packets stay.
count_kept : (words : List (List ℕ)) (counts all : List ℕ) (named : List Bool) (n : ℕ) → Given words counts named all → get_or named n false ≡ true
    → get_or all n 0 ≡ get_or counts n 0
unfolding counts_of put_count put_name
count_kept [] counts all named n e t = sym (ap (λ (x : Bool × List ℕ). get_or x.1 n 0) e)
count_kept (word ∷ words) counts all named n e t =
    go (first_taken word counts all words named e) (count_kept words (put_count word counts) all (put_name word named) n)
  where
    go : (is_new word named ≡ true) × Given words (put_count word counts) (put_name word named) all
        → (Given words (put_count word counts) (put_name word named) all → get_or (put_name word named) n false ≡ true → get_or all n 0 ≡ get_or (put_count word counts) n 0)
        → get_or all n 0 ≡ get_or counts n 0
    go (new, rest) more =
        let other : n ≡ value_of (flow_part word) → ⊥ = λ q. true≢false (sym t ∙ rw q (new_parts word named new).1) in
        more rest (get_or-set_other named _ n true false other ∙ t) ∙ get_or-set_other counts _ n _ 0 other

module _ (all : List ℕ) where
  -- Each word N=K gives K for flow N.
  counted : (words : List (List ℕ)) (counts : List ℕ) (named : List Bool) → length counts ≡ 64 → length named ≡ 64 → Given words counts named all
      → (i : ℕ) → i < length words → get_or all (value_of (flow_part (get_or words i []))) 0 ≡ value_of (count_part (get_or words i []))
  unfolding put_count put_name
  counted [] counts named c m e i l = absurd (omega arith)
  counted (word ∷ words) counts named c m e i l =
      go (first_taken word counts all words named e)
      (counted words (put_count word counts) (put_name word named) (length-set counts _ _ ∙ c) (length-set named _ _ ∙ m)) i l
    where
      go : (is_new word named ≡ true) × Given words (put_count word counts) (put_name word named) all
          → (Given words (put_count word counts) (put_name word named) all
          → (i : ℕ) → i < length words → get_or all (value_of (flow_part (get_or words i []))) 0 ≡ value_of (count_part (get_or words i [])))
          → (i : ℕ) → i < suc (length words) → get_or all (value_of (flow_part (get_or (word ∷ words) i []))) 0 ≡ value_of (count_part (get_or (word ∷ words) i []))
      go (new, rest) more zero l =
          let below : value_of (flow_part word) < 64 = flow_below word named new in
          count_kept words _ all _ _ rest (get_or-set_same named _ true false (omega arith)) ∙ get_or-set_same counts _ _ 0 (omega arith)
      go (new, rest) more (suc i) l = more rest i (omega arith)

  -- A flow that no word names keeps what it had.
  uncounted : (words : List (List ℕ)) (counts : List ℕ) (named : List Bool) → Given words counts named all
      → (n : ℕ) → ((i : ℕ) → i < length words → value_of (flow_part (get_or words i [])) ≡ n → ⊥) → get_or all n 0 ≡ get_or counts n 0
  unfolding counts_of put_count
  uncounted [] counts named e n unnamed = sym (ap (λ (x : Bool × List ℕ). get_or x.1 n 0) e)
  uncounted (word ∷ words) counts named e n unnamed =
      go (first_taken word counts all words named e) (uncounted words (put_count word counts) (put_name word named))
    where
      go : (is_new word named ≡ true) × Given words (put_count word counts) (put_name word named) all
          → (Given words (put_count word counts) (put_name word named) all
          → (n : ℕ) → ((i : ℕ) → i < length words → value_of (flow_part (get_or words i [])) ≡ n → ⊥) → get_or all n 0 ≡ get_or (put_count word counts) n 0)
          → get_or all n 0 ≡ get_or counts n 0
      go (new, rest) more = more rest n (λ i l. unnamed (suc i) (omega arith)) ∙ get_or-set_other counts _ n _ 0 (λ q. unnamed 0 (omega arith) (sym q))

-- The arrivals of a slot: K for the flow of each word N=K, 0 for every other.
module _ (words : List (List ℕ)) (all : List ℕ) (given : arrivals_of words ≡ (true, all)) where
  pub arrivals_named : (i : ℕ) → i < length words → get_or all (value_of (flow_part (get_or words i []))) 0 ≡ value_of (count_part (get_or words i []))
  unfolding arrivals_of
  arrivals_named = counted all words (replicate 64 0) (replicate 64 false) refl refl given

  pub arrivals_unnamed : (n : ℕ) → n < 64 → ((i : ℕ) → i < length words → value_of (flow_part (get_or words i [])) ≡ n → ⊥) → get_or all n 0 ≡ 0
  unfolding arrivals_of
  arrivals_unnamed n l unnamed = uncounted all words (replicate 64 0) (replicate 64 false) given n unnamed ∙ get_or-replicate 64 n 0 0 l

-- All words give 64 counts.
counts_long : (words : List (List ℕ)) (counts : List ℕ) (named : List Bool) → length counts ≡ 64 → length (counts_of words counts named).1 ≡ 64
unfolding counts_of put_count
counts_long [] counts named e = e
counts_long (word ∷ words) counts named e = go (is_new word named) (counts_long words (put_count word counts) (put_name word named) (length-set counts _ _ ∙ e))
  where
    go : (b : Bool) → length (counts_of words (put_count word counts) (put_name word named)).1 ≡ 64
        → length (cond {A = Bool × List ℕ} b (counts_of words (put_count word counts) (put_name word named)) (false, replicate 64 0)).1 ≡ 64
    go true long = long
    go false long = refl

pub arrivals_long : (words : List (List ℕ)) → length (arrivals_of words).1 ≡ 64
unfolding arrivals_of
arrivals_long words = counts_long words (replicate 64 0) (replicate 64 false) refl
