-- What an accepted writing leaves, and when one is refused. The modules named here hold the lemmas.
pub mod Put
pub mod Stores
use Prim.Native.Nat.{ℕ, ◌<◌}
use mathlib.Core.Path.{◌≡◌, refl, sym, ◌∙◌, ap}
use mathlib.Core.Bool.{Bool, true, false, cond}
use mathlib.Core.List.{List, ◌++◌}
use mathlib.Core.Logic.{◌⊎◌, inl, inr, ◌↔◌}
use lib.Dec.{ltb}
use lib.ListN.{length, take, drop}
use lib.Seq.{take_at, drop_at}
use borrow.Author.Tests.{lt-ltb, ltb-true}
use Rattle.rulings.specs.Outcome.{Outcome, accepted, refused}
use Rattle.rulings.proofs.Laws.Outcomes.{refused_not}
use Rattle.slices.specs.Written.{written, handed}

-- What a writing comes to where 14 lets pass: `accepted`, or 1.
abbrev room : List ℕ → List ℕ → Bool → Outcome ℕ × List ℕ
room bytes out short = cond short (refused 1 0, out) (accepted (length bytes), bytes ++ drop (length bytes) out)

-- A writing that is accepted stored the bytes at the front of the slice and kept the rest, and 14 let pass what was handed in.
pub written_accepted : (p : Bool) (bytes out new : List ℕ) (size : ℕ) → handed p bytes out ≡ (accepted size, new)
    → (p ≡ true) × (size ≡ length bytes) × (take size new ≡ bytes) × (drop size new ≡ drop size out)
unfolding handed written
written_accepted p bytes out new size e = go p refl (ltb (length out) (length bytes)) e
  where
    go : (a : Bool) → p ≡ a → (b : Bool) → cond a (room bytes out b) (refused 14 0, out) ≡ (accepted size, new)
        → (p ≡ true) × (size ≡ length bytes) × (take size new ≡ bytes) × (drop size new ≡ drop size out)
    go true q false e =
        let o : ◌≡◌ {A = Outcome ℕ} (accepted (length bytes)) (accepted size) = ap (λ (r : Outcome ℕ × List ℕ). r.0) e in
        let long : length bytes ≡ size = cc in
        let is : bytes ++ drop (length bytes) out ≡ new = ap (λ (r : Outcome ℕ × List ℕ). r.1) e in (
          q,
          sym long,
          sym (ap (λ (r : List ℕ). take size r) is) ∙ take_at bytes (drop (length bytes) out) size long,
          sym (ap (λ (r : List ℕ). drop size r) is) ∙ drop_at bytes (drop (length bytes) out) size long ∙ rw long,
        )
    go true q true e = absurd (refused_not _ refl (ap (λ (r : Outcome ℕ × List ℕ). r.0) e))
    go false q b e = absurd (refused_not _ refl (ap (λ (r : Outcome ℕ × List ℕ). r.0) e))

-- What a refused writing tells: 14 where the check does not let pass what is handed in, 1 where it does and the slice is too short; the place is 0, and the slice stays.
abbrev Unwritten : Bool → List ℕ → List ℕ → List ℕ → ℕ → ℕ → Type 0
Unwritten p bytes out new number place =
    (place ≡ 0) × (new ≡ out) × (((p ≡ false) × (number ≡ 14)) ⊎ ((p ≡ true) × (length out < length bytes) × (number ≡ 1)))

-- A writing is refused just so.
pub written_refused : (p : Bool) (bytes out new : List ℕ) (number place : ℕ)
    → (handed p bytes out ≡ (refused number place, new)) ↔ Unwritten p bytes out new number place
unfolding handed written
written_refused p bytes out new number place = (λ e. go p refl (ltb (length out) (length bytes)) refl e, back)
  where
    go : (a : Bool) → p ≡ a → (b : Bool) → ltb (length out) (length bytes) ≡ b → cond a (room bytes out b) (refused 14 0, out) ≡ (refused number place, new)
        → Unwritten p bytes out new number place
    go true q false s e = absurd (refused_not _ (ap (λ (r : Outcome ℕ × List ℕ). r.0) e) refl)
    go true q true s e =
        let o : ◌≡◌ {A = Outcome ℕ} (refused 1 0) (refused number place) = ap (λ (r : Outcome ℕ × List ℕ). r.0) e in
        let n : number ≡ 1 = cc in
        let l : place ≡ 0 = cc in
        (l, sym (ap (λ (r : Outcome ℕ × List ℕ). r.1) e), inr (q, ltb-true _ _ s, n))
    go false q b s e =
        let o : ◌≡◌ {A = Outcome ℕ} (refused 14 0) (refused number place) = ap (λ (r : Outcome ℕ × List ℕ). r.0) e in
        let n : number ≡ 14 = cc in
        let l : place ≡ 0 = cc in
        (l, sym (ap (λ (r : Outcome ℕ × List ℕ). r.1) e), inl (q, n))

    back : Unwritten p bytes out new number place → cond p (room bytes out (ltb (length out) (length bytes))) (refused 14 0, out) ≡ (refused number place, new)
    back (l, is, inl (q, n)) = rw (l, is, q, n)
    back (l, is, inr (q, short, n)) = rw (l, is, q, n, lt-ltb _ _ short)
