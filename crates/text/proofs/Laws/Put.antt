-- Pieces of text in a borrowed space: what several of them leave together.
use Prim.Native.Nat.{ℕ, ◌+◌, ◌≤◌}
use mathlib.Core.Path.{◌≡◌, refl, sym, ◌∙◌, ap}
use mathlib.Core.List.{List, [], ◌∷◌, ◌++◌, append_assoc, append-nil}
use lib.ListN.{length, take, drop, length-append, take-append-drop}
use lib.Seq.{take_at, length-take-le, drop-append-add, drop-drop}
use borrow.Author.Tests.{le-leb}
use native.Mathlib.Nat.{add-zero, zero-add}
use native.Mathlib.Omega.{arith}
use Rattle.slices.specs.Put.{put}
use Rattle.text.specs.Page.{shown}
use Rattle.text.specs.Put.{puts, text_of}
use Rattle.slices.proofs.Laws.Put.{put_room, paste_all, put_long}

-- One piece, and pieces behind others.
pub puts_one : (s t : ℕ × List ℕ) (a : List ℕ) → t ≡ put s a → t ≡ puts s (a ∷ [])
unfolding puts
puts_one s t a e = e

pub puts_append : (s : ℕ × List ℕ) (ps qs : List (List ℕ)) → puts s (ps ++ qs) ≡ puts (puts s ps) qs
unfolding puts
puts_append s [] qs = refl
puts_append s (p ∷ ps) qs = puts_append (put s p) ps qs

pub puts_then : (s t u : ℕ × List ℕ) (ps qs : List (List ℕ)) → t ≡ puts s ps → u ≡ puts t qs → u ≡ puts s (ps ++ qs)
puts_then s t u ps qs e f = f ∙ ap (λ (x : ℕ × List ℕ). puts x qs) e ∙ sym (puts_append s ps qs)

pub puts_long : (s : ℕ × List ℕ) (ps : List (List ℕ)) → length (puts s ps).1 ≡ length s.1
unfolding puts
puts_long s [] = refl
puts_long s (p ∷ ps) = puts_long (put s p) ps ∙ put_long s p

-- Pieces with room for all of them stand one behind the other, as the text that they make, and the rest of the space stays.
pub puts_whole : (at : ℕ) (out : List ℕ) (ps : List (List ℕ)) → at + length (text_of ps) ≤ length out
    → puts (at, out) ps ≡ (at + length (text_of ps), take at out ++ text_of ps ++ drop (at + length (text_of ps)) out)
unfolding puts text_of
puts_whole at out [] room = rw (add-zero, append-nil) (ap (λ (o : List ℕ). (at, o)) (sym (take-append-drop at out)))
puts_whole at out (p ∷ ps) room =
    let n : ℕ = length (text_of ps) in
    let more : length (p ++ text_of ps) ≡ length p + n = length-append p (text_of ps) in
    let head : List ℕ = take at out ++ p in
    let new : List ℕ = head ++ drop (at + length p) out in
    let long : length new ≡ length out = paste_all at out p (omega arith) in
    let size : length head ≡ at + length p = length-append (take at out) p ∙ rw (length-take-le at out (omega arith)) in
    let front : take (at + length p) new ≡ head = take_at head (drop (at + length p) out) (at + length p) size in
    let behind : drop (at + length p + n) new ≡ drop (at + length p + n) out =
    ap (λ (k : ℕ). drop (k + n) new) (sym size) ∙ drop-append-add head (drop (at + length p) out) n ∙ drop-drop n (at + length p) out in
    let same : at + length p + n ≡ at + length (p ++ text_of ps) = omega arith in
    ap (λ (s : ℕ × List ℕ). puts s ps) (put_room at out p (omega arith)) ∙ puts_whole (at + length p) new ps (omega arith)
    ∙ rw (front, behind, same, append_assoc (take at out) p (text_of ps))

pub puts_front : (at : ℕ) (out : List ℕ) (ps : List (List ℕ)) → at + length (text_of ps) ≤ length out
    → ((puts (at, out) ps).0 ≡ at + length (text_of ps)) × (take (at + length (text_of ps)) (puts (at, out) ps).1 ≡ take at out ++ text_of ps)
puts_front at out ps room =
    let size : length (take at out ++ text_of ps) ≡ at + length (text_of ps) = length-append (take at out) (text_of ps) ∙ rw (length-take-le at out (omega arith)) in
    rw (puts_whole at out ps room) (refl, take_at (take at out ++ text_of ps) (drop (at + length (text_of ps)) out) (at + length (text_of ps)) size)

-- The text of some pieces and others is that of both, and as long as both.
pub text_joined : (ps qs : List (List ℕ)) → text_of (ps ++ qs) ≡ text_of ps ++ text_of qs
unfolding text_of
text_joined [] qs = refl
text_joined (p ∷ ps) qs = rw (text_joined ps qs) (sym (append_assoc p (text_of ps) (text_of qs)))

pub text_append : (ps qs : List (List ℕ)) → length (text_of (ps ++ qs)) ≡ length (text_of ps) + length (text_of qs)
text_append ps qs = ap length (text_joined ps qs) ∙ length-append (text_of ps) (text_of qs)

-- A page shows all of a text that has room on it.
pub shown_puts : (out : List ℕ) (ps : List (List ℕ)) → length (text_of ps) ≤ length out → shown (puts (0, out) ps) ≡ text_of ps
unfolding shown
shown_puts out ps room =
    let n : ℕ = length (text_of ps) in
    let rest : List ℕ = drop n out in
    let all : n ≤ length (text_of ps ++ rest) = omega (arith, length-append (text_of ps) rest) in
    rw (puts_whole 0 out ps (omega arith), zero-add n, le-leb _ _ all) (take_at (text_of ps) rest n refl)
