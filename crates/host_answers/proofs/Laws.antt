-- What is proved of answers of 64 bits: an answer tells the outcome that it was made of where there is room for that, and no two answers tell the same. The
-- modules named here hold the lemmas.
pub mod Told
pub mod Calls
use Prim.Native.Nat.{ℕ, ◌/◌, ◌%◌, ◌^◌, ◌<◌}
use mathlib.Core.Path.{◌≡◌, refl, sym}
use mathlib.Core.Bool.{Bool, true, false, cond}
use lib.Dec.{eqb}
use borrow.Author.Tests.{eqb-true}
use native.Mathlib.Omega.{arith}
use Rattle.rulings.specs.Outcome.{Outcome, Ruling, accepted, refused}
use Rattle.rulings.proofs.Laws.Outcomes.{refused_not}
use Rattle.host_answers.specs.Answers.{told, answer_of, valued, Tellable}
use Rattle.host_answers.proofs.Laws.Told.{told_value, told_no, Room, value_room}

-- An answer tells the outcome that it was made of: every number of a refusal is 1 at least, and places and values have 56 bits.
pub told_answer : (o : Outcome ℕ) → Room o → told (answer_of o) ≡ o
unfolding answer_of
told_answer (accepted value) w =
    let low : value < 2 ^ 56 = w.1.low value refl in let e : value % 2 ^ 56 ≡ value = omega arith in rw e (told_value value low)
told_answer (refused number place) w = let near = w.0.near number place refl in told_no _ number place refl near.0 near.1

-- The same of a ruling with a value beside it.
pub told_valued : (r : Ruling) (value : ℕ) → Tellable r → value < 2 ^ 56 → told (answer_of (valued r value)) ≡ valued r value
unfolding valued
told_valued (accepted a) value w l = told_answer (accepted value) (value_room value l)
told_valued (refused number place) value w l = let near = w.near number place refl in told_no _ number place refl near.0 near.1

-- No two answers tell the same, so an equation about what is told is one about the answer.
pub told_once : (a b : ℕ) → told a ≡ told b → a ≡ b
unfolding told
told_once a b e = go (eqb (a / 2 ^ 56) 0) refl (eqb (b / 2 ^ 56) 0) refl e
  where
    tells : ℕ → Bool → Outcome ℕ
    tells n t = cond t (accepted (n % 2 ^ 56)) (refused (n / 2 ^ 56) (n % 2 ^ 56))

    go : (s : Bool) → eqb (a / 2 ^ 56) 0 ≡ s → (t : Bool) → eqb (b / 2 ^ 56) 0 ≡ t → tells a s ≡ tells b t → a ≡ b
    go true p true q e =
        let v : a % 2 ^ 56 ≡ b % 2 ^ 56 = cc in omega (arith, eqb-true (a / 2 ^ 56) 0 p, eqb-true (b / 2 ^ 56) 0 q)
    go true p false q e = absurd (refused_not _ refl (sym e))
    go false p true q e = absurd (refused_not _ refl e)
    go false p false q e =
        let n : a / 2 ^ 56 ≡ b / 2 ^ 56 = cc in let v : a % 2 ^ 56 ≡ b % 2 ^ 56 = cc in omega arith
