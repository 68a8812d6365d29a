-- One piece in a borrowed space: how it is stored byte by byte, and what it leaves with room and without.
use Prim.Native.Nat.{ℕ, ◌+◌, ◌≤◌, ◌<◌}
use mathlib.Core.Path.{◌≡◌, refl, sym, ◌∙◌, ap}
use mathlib.Core.Bool.{Bool, true, false, cond}
use mathlib.Core.List.{List, ◌++◌}
use lib.Dec.{leb}
use lib.ListN.{length, get_or, take, drop, set, length-append}
use lib.Seq.{sets, sets-eq, length-sets, paste, paste-zero, paste-suc, length-paste, take-length}
use borrow.Author.Tests.{le-leb, lt-leb, leb-true}
use native.Mathlib.Numerals.{add-one}
use native.Mathlib.Omega.{arith}
use Rattle.slices.specs.Put.{put}
use Rattle.slices.proofs.Laws.Stores.{sets_append}

-- The first i bytes of a word stand in the space from `at` on.
pub record Pasted (old : List ℕ) (at : ℕ) (word : List ℕ) (i : ℕ) (out : List ℕ) : Type 0 where
  pub few : i ≤ length word
  pub is : out ≡ paste old at word i

module _ (old : List ℕ) (at : ℕ) (word : List ℕ) where
  pub pasted_start : Pasted old at word 0 old
  pasted_start = record { few = omega arith; is = paste-zero old at word }

  pub pasted_long : (i : ℕ) (out : List ℕ) → at + length word ≤ length old → Pasted old at word i out → length out ≡ length old
  pasted_long i out room p = ap (λ (o : List ℕ). length o) p.is ∙ length-paste old at word i (omega (arith, p.few)) p.few

  pub pasted_more : (i : ℕ) (out : List ℕ) → at + length word ≤ length old → Pasted old at word i out → i < length word
      → Pasted old at word (i + 1) (set out (at + i) (get_or word i 0))
  pasted_more i out room p l = record {
    few = omega arith;
    is = ap (λ (o : List ℕ). set o (at + i) (get_or word i 0)) p.is ∙ paste-suc old at word i 0 (omega arith) l ∙ rw (add-one i);
  }

  pub pasted_end : (i : ℕ) (out : List ℕ) → Pasted old at word i out → length word ≤ i → out ≡ take at old ++ word ++ drop (at + length word) old
  pasted_end i out p l = let e : i ≡ length word = omega (arith, p.few) in p.is ∙ rw (e, take-length word)

-- A piece with room, and one without.
pub put_room : (at : ℕ) (out piece : List ℕ) → at + length piece ≤ length out
    → put (at, out) piece ≡ (at + length piece, take at out ++ piece ++ drop (at + length piece) out)
unfolding put
put_room at out piece room = rw (le-leb _ _ room)

pub put_full : (at : ℕ) (out piece : List ℕ) → length out < at + length piece → put (at, out) piece ≡ (length out + 1, out)
unfolding put
put_full at out piece none = rw (lt-leb _ _ none)

pub put_stored : (at : ℕ) (out piece new : List ℕ) → at + length piece ≤ length out → new ≡ take at out ++ piece ++ drop (at + length piece) out
    → (at + length piece, new) ≡ put (at, out) piece
put_stored at out piece new room is = ap (λ (o : List ℕ). (at + length piece, o)) is ∙ sym (put_room at out piece room)

-- Where there is room, the bytes of the piece are stored one after the other.
pub put_sets : (at r : ℕ) (out piece new : List ℕ) → at + length piece ≤ length out → (r, new) ≡ put (at, out) piece → new ≡ sets out at piece
put_sets at r out piece new room e =
    ap (λ (s : ℕ × List ℕ). s.1) e ∙ ap (λ (s : ℕ × List ℕ). s.1) (put_room at out piece room) ∙ sym (sets-eq piece out at room)

-- Two pieces, with room for both, are put as one.
pub put_then : (at : ℕ) (out : List ℕ) (s t : ℕ × List ℕ) (a b : List ℕ) → at + length (a ++ b) ≤ length out → s ≡ put (at, out) a → t ≡ put s b
    → t ≡ put (at, out) (a ++ b)
put_then at out s t a b room p q =
    let both = length-append a b in
    let one : s ≡ (at + length a, sets out at a) = p ∙ all a out at (omega arith) in
    let two : put s b ≡ (at + length a + length b, sets (sets out at a) (at + length a) b) =
    rw one (all b (sets out at a) (at + length a) (rw length-sets (omega arith))) in
    let more : at + length a + length b ≡ at + length (a ++ b) = omega arith in
    q ∙ two ∙ rw (more, ← sets_append out at a b) (sym (all (a ++ b) out at room))
  where
    all : (piece out : List ℕ) (at : ℕ) → at + length piece ≤ length out → put (at, out) piece ≡ (at + length piece, sets out at piece)
    all piece out at l = put_room at out piece l ∙ rw (sets-eq piece out at l)

pub put_as : (s : ℕ × List ℕ) (a b : List ℕ) → a ≡ b → put s a ≡ put s b
put_as s a b e = ap (λ (piece : List ℕ). put s piece) e

-- No piece changes how long the space is.
pub paste_all : (at : ℕ) (out piece : List ℕ) → at + length piece ≤ length out → length (take at out ++ piece ++ drop (at + length piece) out) ≡ length out
paste_all at out piece room = sym (ap (λ (p : List ℕ). length (take at out ++ p ++ drop (at + length piece) out)) (take-length piece)) ∙ length-paste out at piece
    (length piece) room (omega arith)

pub put_long : (s : ℕ × List ℕ) (piece : List ℕ) → length (put s piece).1 ≡ length s.1
unfolding put
put_long (at, out) piece = go (leb (at + length piece) (length out)) (λ e. leb-true _ _ e)
  where
    go : (b : Bool) → (b ≡ true → at + length piece ≤ length out)
        → length (cond {A = ℕ × List ℕ} b (at + length piece, take at out ++ piece ++ drop (at + length piece) out) (length out + 1, out)).1 ≡ length out
    go true room = paste_all at out piece (room refl)
    go false room = refl
