-- Bytes that a line gives in hexadecimal, stored one after the other.
use Prim.Native.Nat.{ℕ, suc, ◌+◌, ◌*◌, ◌≤◌, ◌<◌, min}
use mathlib.Core.Path.{◌≡◌, refl, sym, ◌∙◌, ap}
use mathlib.Core.Bool.{cond}
use mathlib.Core.List.{List, [], ◌∷◌, ◌++◌, append_assoc, append-nil}
use mathlib.Core.Logic.{inl, inr}
use lib.Dec.{ltb}
use lib.ListN.{length, get_or, take, drop, length-append, length-drop, length-take, drop_of_length-le}
use lib.Seq.{drop-cons, set_at, append_snoc, take_all, take_at, take-append-le}
use borrow.Author.Tests.{lt-ltb, le-ltb}
use native.Mathlib.Numerals.{add-one}
use native.Mathlib.Omega.{arith}
use Rattle.std.specs.Prelude.{Option, Some, None, IfSome}
use Rattle.lists.specs.Search.{some_below}
use Rattle.lists.proofs.Laws.Search.{lt_or_le, below_is, past_is}
use Rattle.testlib_text.specs.Hex.{hex_value, hex_values, paired, hex_bytes, hex_stored, filled}

-- With room for all of the bytes, and without.
filled_room : (bytes out : List ℕ) → length bytes ≤ length out → filled bytes out ≡ (length bytes, bytes ++ drop (length bytes) out)
unfolding filled
filled_room bytes out l = let m : min (length bytes) (length out) ≡ length bytes = omega arith in rw (m, take_all (length out) bytes l)

filled_full : (bytes out : List ℕ) → length out ≤ length bytes → filled bytes out ≡ (length out, take (length out) bytes)
unfolding filled
filled_full bytes out l =
    let m : min (length bytes) (length out) ≡ length out = omega arith in rw (m, drop_of_length-le out l, append-nil)

-- The space stays as long as it is, and what was stored stands at its front.
filled_long : (bytes out : List ℕ) → length (filled bytes out).1 ≡ length out
unfolding filled
filled_long bytes out = simp (length-append, length-take, length-drop) (omega arith)

pub filled_front : (bytes out : List ℕ) → take (filled bytes out).0 (filled bytes out).1 ≡ take (length out) bytes
filled_front bytes out = elim (lt_or_le (length out) (length bytes)) [
  | inl l ↦ rw (filled_full bytes out (omega arith)) (take_all (length out) (take (length out) bytes) (simp length-take (omega arith)))
  | inr l ↦ rw (filled_room bytes out l) (take_at bytes (drop (length bytes) out) (length bytes) refl ∙ sym (take_all (length out) bytes l))
]

pub filled_within : (bytes out new : List ℕ) (n : ℕ) → (n, new) ≡ filled bytes out → n ≤ length new
unfolding filled
filled_within bytes out new n e =
    let few : n ≤ length out = rw (ap (λ (s : ℕ × List ℕ). s.0) e) (omega arith) in
    let long : length new ≡ length out = ap (λ (s : ℕ × List ℕ). length s.1) e ∙ filled_long bytes out in
    omega arith

filled_more : (bytes out : List ℕ) (byte : ℕ) → hex_stored (filled bytes out) byte ≡ filled (bytes ++ (byte ∷ [])) out
unfolding hex_stored
filled_more bytes out byte = elim (lt_or_le (length bytes) (length out)) [
  | inl l ↦
      let long : length (bytes ++ (byte ∷ [])) ≡ length bytes + 1 = length-append bytes (byte ∷ []) in
      let whole : length (bytes ++ drop (length bytes) out) ≡ length out = length-append bytes (drop (length bytes) out) ∙ rw (length-drop) (omega arith) in
      rw (
        filled_room bytes out (omega arith),
        filled_room (bytes ++ (byte ∷ [])) out (omega arith),
        whole,
        lt-ltb _ _ l,
        long,
        add-one,
        drop-cons out (length bytes) 0 l,
        set_at bytes (get_or out (length bytes) 0) (drop (suc (length bytes)) out) byte (length bytes) refl,
        append_snoc bytes byte (drop (suc (length bytes)) out),
      )
  | inr l ↦
      let long : length (bytes ++ (byte ∷ [])) ≡ length bytes + 1 = length-append bytes (byte ∷ []) in
      let whole : length (take (length out) bytes) ≡ length out = length-take (length out) bytes ∙ omega arith in
      rw (
        filled_full bytes out l,
        filled_full (bytes ++ (byte ∷ [])) out (omega arith),
        whole,
        le-ltb (length out) (length out) (omega arith),
        take-append-le (length out) bytes (byte ∷ []) l,
      )
]

-- A digit that waits for its second one, or none.
abbrev waiting : Option ℕ → List ℕ → List ℕ
waiting None values = values
waiting (Some high) values = high ∷ values

-- The bytes of the digits before index i are stored; those of the others make the rest.
pub record Parsed (line old : List ℕ) (i : ℕ) (high : Option ℕ) (n : ℕ) (out : List ℕ) : Type 0 where
  pub done : List ℕ
  pub kept : (n, out) ≡ filled done old
  pub rest : done ++ paired (waiting high (hex_values (drop i line))) ≡ hex_bytes line
  pub low : IfSome high (λ h. h < 16)

values_more : (line : List ℕ) (i : ℕ) → i < length line
    → hex_values (drop i line) ≡ cond (ltb (hex_value (get_or line i 0)) 16) (hex_value (get_or line i 0) ∷ hex_values (drop (i + 1) line)) (hex_values (drop (i + 1) line))
unfolding hex_values
values_more line i l = rw (add-one i, drop-cons line i 0 l)

module _ (line old : List ℕ) where
  pub parsed_start : Parsed line old 0 None 0 old
  unfolding hex_bytes
  parsed_start = record { done = []; kept = sym (filled_room [] old (omega arith)); rest = refl; low = tt }

  module _ (i : ℕ) (high : Option ℕ) (n : ℕ) (out : List ℕ) (p : Parsed line old i high n out) where
    pub parsed_long : length out ≡ length old
    parsed_long = ap (λ (s : ℕ × List ℕ). length s.1) p.kept ∙ filled_long p.done old

    pub parsed_end : length line ≤ i → (n, out) ≡ filled (hex_bytes line) old
    unfolding hex_values paired
    parsed_end l =
        p.kept ∙ ap (λ (bytes : List ℕ). filled bytes old) (sym (append-nil p.done) ∙ ap (λ (bytes : List ℕ). p.done ++ bytes) (sym none) ∙ p.rest)
      where
        lone : (h : Option ℕ) → paired (waiting h []) ≡ []
        lone None = refl
        lone (Some h) = refl

        none : paired (waiting high (hex_values (drop i line))) ≡ []
        none = rw (drop_of_length-le line l) (lone high)

    module _ (l : i < length line) where
      pub parsed_passed : None ≡ some_below 16 (hex_value (get_or line i 0)) → Parsed line old (i + 1) high n out
      parsed_passed e = record {
        done = p.done;
        kept = p.kept;
        rest = rw (values_more line i l, le-ltb _ _ (past_is _ _ e)) at p.rest;
        low = p.low;
      }

  module _ (i n value : ℕ) (out : List ℕ) (l : i < length line) (e : Some value ≡ some_below 16 (hex_value (get_or line i 0))) where
    pub parsed_first : Parsed line old i None n out → Parsed line old (i + 1) (Some value) n out
    parsed_first p =
        let w = below_is _ _ _ e in
        record {
          done = p.done;
          kept = p.kept;
          rest = rw w.0 (rw (values_more line i l, lt-ltb _ _ w.1) at p.rest);
          low = omega (arith, w);
        }

    pub parsed_second : (high m : ℕ) (new : List ℕ) → Parsed line old i (Some high) n out → (m, new) ≡ hex_stored (n, out) (high * 16 + value)
        → Parsed line old (i + 1) None m new
    unfolding paired
    parsed_second high m new p s =
        let w = below_is _ _ _ e in
        record {
          done = p.done ++ ((high * 16 + value) ∷ []);
          kept = s ∙ ap (λ (t : ℕ × List ℕ). hex_stored t (high * 16 + value)) p.kept ∙ filled_more p.done old (high * 16 + value);
          rest = append_assoc p.done ((high * 16 + value) ∷ []) (paired (hex_values (drop (i + 1) line)))
              ∙ rw w.0 (rw (values_more line i l, lt-ltb _ _ w.1) at p.rest);
          low = tt;
        }

pub ruleset parsing = (parsed_start, parsed_long, parsed_end, parsed_passed, parsed_first, parsed_second)
