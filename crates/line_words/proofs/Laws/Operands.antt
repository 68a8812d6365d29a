-- The operands of a line, read one after the other.
use Prim.Native.Nat.{ℕ, suc, ◌+◌, ◌≤◌, ◌<◌}
use mathlib.Core.Path.{◌≡◌, refl, sym, ◌∙◌, ap}
use mathlib.Core.Bool.{Bool, true, false, cond, true≢false}
use mathlib.Core.List.{List, [], ◌∷◌}
use lib.ListN.{length, length-set, get_or, set, drop, drop_of_length-le}
use lib.Seq.{drop-cons}
use native.Mathlib.Nat.{zero-add}
use native.Mathlib.Numerals.{add-one}
use native.Mathlib.Omega.{arith}
use Rattle.std.specs.Prelude.{Some, None}
use Rattle.std.proofs.Common.{◌≢◌, below_more, get_or-set_other, get_or-set_same}
use Rattle.text.specs.Decimal.{value_of, is_number}
use Rattle.line_words.specs.Words.{none, operand_of, said, misfit}

-- The first j words are numbers within their limits: what is left decides which word is wrong, and says the other numbers.
pub record Left (limits : List ℕ) (words : List (List ℕ)) (j : ℕ) (more : List ℕ) (rest : List (List ℕ)) : Type 0 where
  pub still : misfit limits words 0 ≡ misfit more rest j
  pub behind : (i : ℕ) → said rest i ≡ said words (j + i)

pub left_start : (limits : List ℕ) (words : List (List ℕ)) → Left limits words 0 limits words
left_start limits words = record { still = refl; behind = λ i. rw (zero-add i) }

abbrev Taken : Type 0
Taken = Bool × ℕ × List (List ℕ)

-- An operand that was read, and one that was not.
read_split : (rest ws : List (List ℕ)) (m v : ℕ) → (true, v, ws) ≡ operand_of rest m
    → (more : List ℕ) (k : ℕ) → (misfit (m ∷ more) rest k ≡ misfit more ws (k + 1)) × (v ≡ said rest 0) × ((i : ℕ) → said ws i ≡ said rest (suc i))
unfolding operand_of misfit said
read_split [] ws m v e more k = absurd (true≢false (ap (λ (x : Taken). x.0) e))
read_split (w ∷ us) ws m v e more k = go (is_number w m) e
  where
    go : (b : Bool) → ◌≡◌ {A = Taken} (true, v, ws) (cond b (true, value_of w, us) (false, 0, []))
        → (cond b (misfit more us (k + 1)) (Some k) ≡ misfit more ws (k + 1)) × (v ≡ value_of w) × ((i : ℕ) → value_of (get_or ws i []) ≡ value_of (get_or us i []))
    go true e =
        let same : ws ≡ us = ap (λ (x : Taken). x.2) e in
        (rw same, ap (λ (x : Taken). x.1) e, λ i. rw same)
    go false e = absurd (true≢false (ap (λ (x : Taken). x.0) e))

not_read : (rest ws : List (List ℕ)) (m v : ℕ) → (false, v, ws) ≡ operand_of rest m → (more : List ℕ) (k : ℕ) → misfit (m ∷ more) rest k ≡ Some k
unfolding operand_of misfit
not_read [] ws m v e more k = refl
not_read (w ∷ us) ws m v e more k = go (is_number w m) e
  where
    go : (b : Bool) → ◌≡◌ {A = Taken} (false, v, ws) (cond b (true, value_of w, us) (false, 0, [])) → cond b (misfit more us (k + 1)) (Some k) ≡ Some k
    go true e = absurd (true≢false (sym (ap (λ (x : Taken). x.0) e)))
    go false e = refl

-- The first j operands are read, each within its limit, and these are their numbers.
pub record Reading (limits : List ℕ) (words : List (List ℕ)) (j : ℕ) (rest : List (List ℕ)) (values : List ℕ) : Type 0 where
  pub left : Left limits words j (drop j limits) rest
  pub long : length values ≡ length limits
  pub numbers : (k : ℕ) → k < j → (get_or values k 0 ≡ said words k) × (get_or values k 0 ≤ get_or limits k 0)

module _ (limits : List ℕ) (words : List (List ℕ)) where
  pub reading_start : (values : List ℕ) → length values ≡ length limits → Reading limits words 0 words values
  reading_start values e = record { left = left_start limits words; long = e; numbers = λ k l. absurd (omega arith) }

  module _ (j : ℕ) (rest : List (List ℕ)) (values : List ℕ) (w : Reading limits words j rest values) where
    module _ (l : j < length limits) (ws : List (List ℕ)) (v : ℕ) where
      at_hand : Left limits words j (get_or limits j 0 ∷ drop (suc j) limits) rest
      at_hand = rw (drop-cons limits j 0 l) at w.left

      pub reading_wrong : (false, v, ws) ≡ operand_of rest (get_or limits j 0) → misfit limits words 0 ≡ Some j
      reading_wrong e = at_hand.still ∙ not_read rest ws (get_or limits j 0) v e (drop (suc j) limits) j

      pub reading_more : (true, v, ws) ≡ operand_of rest (get_or limits j 0) → v ≤ get_or limits j 0 → Reading limits words (j + 1) ws (set values j v)
      reading_more e m =
          let room : j < length values = omega (arith, w.long) in
          let s = read_split rest ws (get_or limits j 0) v e (drop (suc j) limits) j in
          record {
            left = rw (add-one j) (record {
              still = at_hand.still ∙ s.0 ∙ rw (add-one j);
              behind = λ i. let at : j + suc i ≡ suc j + i = omega arith in s.2 i ∙ at_hand.behind (suc i) ∙ rw at;
            });
            long = length-set values j v ∙ w.long;
            numbers = below_more (λ k. (get_or (set values j v) k 0 ≡ said words k) × (get_or (set values j v) k 0 ≤ get_or limits k 0)) j
                (λ k h. let ne : k ≢ j = omega arith in rw get_or-set_other (w.numbers k h))
                (let zero : j + 0 ≡ j = omega arith in rw get_or-set_same (s.1 ∙ at_hand.behind 0 ∙ rw zero, m));
          }

    module _ (l : length limits ≤ j) where
      all_read : Left limits words j [] rest
      all_read = rw (drop_of_length-le limits l) at w.left

      pub reading_many : (n : ℕ) → j ≡ n → false ≡ none rest → misfit limits words 0 ≡ Some n
      unfolding misfit none
      reading_many n q e = go rest all_read e ∙ rw q
        where
          go : (rest : List (List ℕ)) → Left limits words j [] rest → false ≡ none rest → misfit limits words 0 ≡ Some j
          go [] r e = absurd (true≢false (sym e))
          go (u ∷ us) r e = r.still

      pub reading_done : true ≡ none rest → misfit limits words 0 ≡ None
      unfolding misfit none
      reading_done e = go rest all_read e
        where
          go : (rest : List (List ℕ)) → Left limits words j [] rest → true ≡ none rest → misfit limits words 0 ≡ None
          go [] r e = r.still
          go (u ∷ us) r e = absurd (true≢false e)
