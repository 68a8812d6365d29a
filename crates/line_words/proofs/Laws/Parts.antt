-- Text taken apart by a scan that stops at the first marked byte.
use Prim.Native.Nat.{ℕ, zero, suc, ◌+◌, ◌-◌, ◌≤◌, ◌<◌, min}
use mathlib.Core.Path.{◌≡◌, refl, sym, ◌∙◌, ap}
use mathlib.Core.Bool.{Bool, true, false, cond, not, ◌&&◌, true≢false}
use mathlib.Core.List.{List, [], ◌∷◌, ◌++◌, append-nil}
use Rattle.std.specs.Prelude.{Option, Some, None}
use Rattle.std.specs.Option.{unwrap_or}
use lib.ListN.{length, get_or, take, drop, drop_of_length-le}
use lib.Seq.{drop-cons}
use native.Mathlib.Nat.{eq-or-lt_of_le, add-zero}
use mathlib.Core.Logic.{◌⊎◌, inl, inr}
use native.Mathlib.Numerals.{add-one}
use native.Mathlib.Omega.{arith}
use Rattle.lists.specs.Search.{first}
use Rattle.lists.proofs.Laws.Search.{lt_or_le, first_passes, first_before}
use Rattle.line_words.specs.Parts.{onto, parts, first_part, before, reach, Reaches, FoundFrom}

-- A search ends from where it starts on, and not behind the numbers that it looks at.
pub first_bounds : (p : ℕ → Bool) (r c : ℕ) → (c ≤ first p r c) × (first p r c ≤ c + r)
unfolding first
first_bounds p zero c = (omega arith, omega arith)
first_bounds p (suc r) c = go (p c) (first_bounds p r (c + 1))
  where
    go : (t : Bool) → (c + 1 ≤ first p r (c + 1)) × (first p r (c + 1) ≤ c + 1 + r)
        → (c ≤ cond t c (first p r (c + 1))) × (cond t c (first p r (c + 1)) ≤ c + suc r)
    go true w = (omega arith, omega arith)
    go false w = (omega (arith, w.0), omega (arith, w.1))

module _ (mark : ℕ → Bool) (text : List ℕ) (from : ℕ) where
  -- The words of `Reaches` hold of the index that the definition gives, and of no other.
  pub reach_reaches : Reaches mark text from (reach mark text from)
  unfolding reach
  reach_reaches =
      let p : ℕ → Bool = λ i. mark (get_or text i 0) in
      let c : ℕ = min from (length text) in
      let bounds = first_bounds p (length text - c) c in
      record {
        onward = bounds.0;
        within = omega (arith, bounds.1);
        passed = λ i a b. first_before p (length text - c) c i (omega arith) b;
        marked = λ l. first_passes p (length text - c) c (omega arith);
      }

  pub reaches_once : (r q : ℕ) → Reaches mark text from r → Reaches mark text from q → r ≡ q
  reaches_once r q v w = go (lt_or_le r q) (lt_or_le q r)
    where
      apart : (a b : ℕ) → Reaches mark text from a → Reaches mark text from b → a < b → ⊥
      apart a b v w l = true≢false (sym (v.marked (omega (arith, w.within))) ∙ w.passed a (omega (arith, v.onward, w.within)) l)

      go : (r < q) ⊎ (q ≤ r) → (q < r) ⊎ (r ≤ q) → r ≡ q
      go (inl l) m = absurd (apart r q v w l)
      go (inr l) (inl m) = absurd (apart q r w v m)
      go (inr l) (inr m) = omega arith

  -- The unmarked bytes before a part are its front.
  run : (n f : ℕ) → f + n ≤ length text → ((i : ℕ) → f ≤ i → i < f + n → mark (get_or text i 0) ≡ false) → (ps : List (List ℕ))
      → parts mark (drop (f + n) text) ≡ [] ∷ ps → parts mark (drop f text) ≡ take n (drop f text) ∷ ps
  unfolding parts onto
  run zero f l none ps e = rw (add-zero f) at e
  run (suc n) f l none ps e =
      let same : suc f + n ≡ f + suc n = omega arith in
      let ih : parts mark (drop (suc f) text) ≡ take n (drop (suc f) text) ∷ ps =
      run n (suc f) (omega arith) (λ i a b. none i (omega arith) (omega arith)) ps (ap (λ (k : ℕ). parts mark (drop k text)) same ∙ e) in
      rw (drop-cons text f 0 (omega arith), none f (omega arith) (omega arith), ih)

  reached : (r : ℕ) → Reaches mark text from r → from ≤ r → (ps : List (List ℕ)) → parts mark (drop r text) ≡ [] ∷ ps
      → parts mark (drop from text) ≡ take (r - from) (drop from text) ∷ ps
  reached r w l ps e =
      let same : from + (r - from) ≡ r = omega arith in
      run (r - from) from (omega (arith, w.within)) (λ i a b. w.passed i a (omega arith)) ps (ap (λ (k : ℕ). parts mark (drop k text)) same ∙ e)

  -- The first part ends at a marked byte, behind which the others stand, or with the text.
  pub parts_marked : (r : ℕ) → Reaches mark text from r → from ≤ r → r < length text
      → parts mark (drop from text) ≡ take (r - from) (drop from text) ∷ parts mark (drop (r + 1) text)
  unfolding parts
  parts_marked r w l m = reached r w l _ (rw (drop-cons text r 0 m, w.marked m, add-one r))

  pub parts_last : (r : ℕ) → Reaches mark text from r → from ≤ r → length text ≤ r → parts mark (drop from text) ≡ take (r - from) (drop from text) ∷ []
  unfolding parts
  parts_last r w l m = reached r w l [] (rw (drop_of_length-le text m))

  pub before_reached : (r : ℕ) → Reaches mark text from r → from ≤ r → before mark (drop from text) ≡ take (r - from) (drop from text)
  unfolding before first_part
  before_reached r w l = elim (eq-or-lt_of_le {n = r} {m = length text} w.within) [
    | inl q ↦ rw (parts_last r w l (omega arith))
    | inr m ↦ rw (parts_marked r w l m)
  ]

-- What stands before the first marked byte is the text up to where a search from its start stops.
pub found_front : (mark : ℕ → Bool) (text : List ℕ) (o : Option ℕ) → FoundFrom mark text 0 o → before mark text ≡ take (unwrap_or o (length text)) text
found_front mark text o f = go o f
  where
    front : (r : ℕ) → Reaches mark text 0 r → before mark text ≡ take r text
    front r w = let all : r - 0 ≡ r = omega arith in rw all at (before_reached mark text 0 r w (omega arith))

    go : (o : Option ℕ) → FoundFrom mark text 0 o → before mark text ≡ take (unwrap_or o (length text)) text
    go (Some at) f = front at f.1
    go None f = front (length text) f

-- No byte of a text is marked.
unfoldable pub unmarked : (ℕ → Bool) → List ℕ → Bool
unmarked mark [] = true
unmarked mark (c ∷ cs) = not (mark c) && unmarked mark cs

module _ (mark : ℕ → Bool) where
  unmarked_split : (x : ℕ) (xs : List ℕ) → unmarked mark (x ∷ xs) ≡ true → (mark x ≡ false) × (unmarked mark xs ≡ true)
  unfolding unmarked
  unmarked_split x xs u = go (mark x) u
    where
      go : (b : Bool) → (not b && unmarked mark xs) ≡ true → (b ≡ false) × (unmarked mark xs ≡ true)
      go true u = absurd (true≢false (sym u))
      go false u = (refl, u)

  pub unmarked_append : (xs ys : List ℕ) → unmarked mark xs ≡ true → unmarked mark ys ≡ true → unmarked mark (xs ++ ys) ≡ true
  unfolding unmarked
  unmarked_append [] ys u v = v
  unmarked_append (x ∷ xs) ys u v = let w = unmarked_split x xs u in rw w.0 (unmarked_append xs ys w.1 v)

  -- Such a text is the first part of a longer one that goes on at a marked byte, and the only part of itself.
  pub unmarked_first : (xs ys : List ℕ) (ps : List (List ℕ)) → unmarked mark xs ≡ true → parts mark ys ≡ [] ∷ ps → parts mark (xs ++ ys) ≡ xs ∷ ps
  unfolding parts onto
  unmarked_first [] ys ps u e = e
  unmarked_first (x ∷ xs) ys ps u e = let w = unmarked_split x xs u in rw (w.0, unmarked_first xs ys ps w.1 e)

  pub before_unmarked : (xs : List ℕ) → unmarked mark xs ≡ true → before mark xs ≡ xs
  unfolding before first_part parts
  before_unmarked xs u = rw (rw append-nil at (unmarked_first xs [] [] u refl))
