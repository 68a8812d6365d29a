-- What is proved of bytes: a number of any width is read back from its bytes, and bytes are written back from their number. The module named here has the reading
-- of commands.
pub mod Reading
use Prim.Native.Nat.{ℕ, zero, suc, ◌+◌, ◌-◌, ◌*◌, ◌/◌, ◌%◌, ◌^◌, ◌<◌, ◌≤◌}
use mathlib.Core.Path.{◌≡◌, refl, sym, ◌∙◌, ap}
use mathlib.Core.Bool.{Bool, true, false, cond}
use mathlib.Core.List.{List, ◌++◌}
use mathlib.Core.Logic.{◌⊎◌, inl, inr}
use lib.Dec.{eqb}
use lib.ListN.{length, get_or, take, drop, length-drop}
use lib.Seq.{drop-cons, get_or-drop, drop-drop}
use native.Mathlib.Nat.{pow-zero, pow-suc}
use borrow.Author.Tests.{eq-eqb, ne_eqb}
use native.Mathlib.Decide.{ℕ_discrete}
use native.Mathlib.Numerals.{add-one}
use native.Mathlib.Omega.{arith}
use Rattle.std.proofs.lemmas.Bool.Decides.{nat_tests}
use Rattle.format.specs.Commands.{size_of, schedule_size}
use Rattle.format.specs.Bytes.{number_at, bytes_of}
use Rattle.format.specs.Words.{Bytes}

-- A number of w bytes is read back from its bytes, wherever they stand.
pub number_bytes : (w v : ℕ) (bytes rest : List ℕ) (at : ℕ) → v < 256 ^ w → drop at bytes ≡ bytes_of w v ++ rest → number_at w bytes at ≡ v
unfolding number_at bytes_of
number_bytes zero v bytes rest at small e = omega (arith, pow-zero 256)
number_bytes (suc w) v bytes rest at small e =
    let z : at ≡ at + 0 = omega arith in
    let low : get_or bytes at 0 ≡ v % 256 = ap (λ (i : ℕ). get_or bytes i 0) z ∙ sym (get_or-drop at bytes 0 0) ∙ ap (λ (l : List ℕ). get_or l 0 0) e in
    let high : number_at w bytes (at + 1) ≡ v / 256 =
    number_bytes w (v / 256) bytes rest (at + 1) (omega (arith, pow-suc 256 w)) (sym (drop-drop 1 at bytes) ∙ ap (λ (l : List ℕ). drop 1 l) e) in
    omega arith

-- Bytes are written back from the number that they stand for.
pub bytes_number : (w : ℕ) (bytes : List ℕ) (at : ℕ) → Bytes bytes → at + w ≤ length bytes → bytes_of w (number_at w bytes at) ≡ take w (drop at bytes)
unfolding number_at bytes_of
bytes_number zero bytes at small h = refl
bytes_number (suc w) bytes at small h =
    let low : (get_or bytes at 0 + 256 * number_at w bytes (at + 1)) % 256 ≡ get_or bytes at 0 = omega (arith, small at) in
    let high : (get_or bytes at 0 + 256 * number_at w bytes (at + 1)) / 256 ≡ number_at w bytes (at + 1) = omega (arith, small at) in
    rw (low, high, drop-cons bytes at 0 (omega arith), ← add-one at) (rw (bytes_number w bytes (at + 1) small (omega arith)))

-- Numbers of two bytes and of one.
pub number_two : (bytes : List ℕ) (i j : ℕ) → j ≡ i + 1 → number_at 2 bytes i ≡ get_or bytes i 0 + 256 * get_or bytes j 0
unfolding number_at
number_two bytes i j e = rw e (omega arith)

pub number_one : (bytes : List ℕ) (i : ℕ) → number_at 1 bytes i ≡ get_or bytes i 0
unfolding number_at
number_one bytes i = omega arith

-- What stands at an index, by what is left there.
module _ (bytes : List ℕ) (at : ℕ) where
  pub byte_at : (left : List ℕ) (i : ℕ) → drop at bytes ≡ left → get_or bytes (at + i) 0 ≡ get_or left i 0
  byte_at left i e = sym (get_or-drop at bytes i 0) ∙ ap (λ (l : List ℕ). get_or l i 0) e

  pub head_at : (left : List ℕ) → drop at bytes ≡ left → get_or bytes at 0 ≡ get_or left 0 0
  head_at left e = let z : at + 0 ≡ at = omega arith in rw z at (byte_at left 0 e)

  pub left_at : (left : List ℕ) (i : ℕ) → drop at bytes ≡ left → drop (at + i) bytes ≡ drop i left
  left_at left i e = sym (drop-drop i at bytes) ∙ ap (λ (l : List ℕ). drop i l) e

  pub left_long : (left : List ℕ) → drop at bytes ≡ left → length bytes - at ≡ length left
  left_long left e = sym (length-drop at bytes) ∙ ap (λ (l : List ℕ). length l) e

-- NODE and FLOW have bytes.
pub node_some : 1 ≤ size_of 1
unfolding size_of
node_some = omega arith

pub flow_some : 1 ≤ size_of 2
unfolding size_of
flow_some = omega arith

-- The sizes, one by one.
module _ (tag : ℕ) where
  pub size_node : tag ≡ 1 → 6 ≡ size_of tag
  unfolding size_of
  size_node e = simp e

  pub size_flow : tag ≡ 2 → 6 ≡ size_of tag
  unfolding size_of
  size_flow e = simp e

  pub size_none : (tag ≡ 1 → ⊥) → (tag ≡ 2 → ⊥) → 0 ≡ size_of tag
  unfolding size_of
  size_none n m = simp (ne_eqb _ _ n, ne_eqb _ _ m)

  pub size_link : tag ≡ 17 → 6 ≡ schedule_size tag
  unfolding schedule_size
  size_link e = simp e

  pub size_no_link : (tag ≡ 17 → ⊥) → 0 ≡ schedule_size tag
  unfolding schedule_size
  size_no_link n = simp (ne_eqb _ _ n)

  -- A byte that is a command of a schedule is that of a LINK.
  pub size_kind : (schedule_size tag ≡ 0 → ⊥) → tag ≡ 17
  unfolding schedule_size
  size_kind n = grind (arith, nat_tests)

  -- No command has more than six bytes.
  pub link_most : schedule_size tag ≤ 6
  unfolding schedule_size
  link_most = grind (arith, nat_tests)

  pub size_most : size_of tag ≤ 6
  unfolding size_of
  size_most = grind (arith, nat_tests)

  -- A byte that is a command of a plan is that of a NODE or of a FLOW.
  pub size_kinds : (size_of tag ≡ 0 → ⊥) → (tag ≡ 1) ⊎ (tag ≡ 2)
  unfolding size_of
  size_kinds n = grind (arith, nat_tests)
