-- How long a line can be: each figure has at most five digits.
use Prim.Native.Nat.{ℕ, zero, suc, ◌+◌, ◌*◌, ◌≤◌, ◌<◌}
use mathlib.Core.Path.{◌≡◌}
use mathlib.Core.List.{List, [], ◌∷◌}
use lib.ListN.{length, length-append}
use native.Mathlib.Omega.{arith}
use Rattle.rulings.specs.Outcome.{Outcome, refused}
use Rattle.lists.specs.Lists.{joined}
use Rattle.plan.proofs.Laws.Near.{Near}
use Rattle.text.specs.Letters.{letters}
use Rattle.text.specs.Decimal.{decimal}
use Rattle.text.specs.Put.{text_of}
use Rattle.text.proofs.Laws.Put.{text_append}
use Rattle.text.proofs.Laws.Decimal.{decimal_short}
use Rattle.report_lines.specs.Lines.{slots_text, refusal, refusal_line}

-- A number of at most five digits.
pub record Figure (n : ℕ) : Type 0 where
  pub is : n ≤ 65535

figure : (n : ℕ) → Figure n → length (decimal n) ≤ 5
figure n f = decimal_short 5 n (omega (arith, f.is)) (omega arith)

-- Pieces of so many bytes, and figures, one after the other.
piece : (p : List ℕ) (ps : List (List ℕ)) (m k : ℕ) → length p ≤ m → length (text_of ps) ≤ k → length (text_of (p ∷ ps)) ≤ m + k
unfolding text_of
piece p ps m k a b = omega (arith, length-append p (text_of ps))

-- A named figure before others.
pub field : (name : List ℕ) (n : ℕ) (ps : List (List ℕ)) (k : ℕ) → length name ≤ 15 → Figure n → length (text_of ps) ≤ k
    → length (text_of (name ∷ decimal n ∷ ps)) ≤ length name + (5 + k)
field name n ps k a f b = piece name (decimal n ∷ ps) (length name) (5 + k) (omega arith) (piece (decimal n) ps 5 k (figure n f) b)

pub ended : length (text_of (letters "\n" ∷ [])) ≤ 1
unfolding text_of
ended = omega arith

pub slots_short : (offset period : ℕ) → Figure offset → Figure period → length (text_of (slots_text offset period)) ≤ 27
slots_short offset period a b = field (letters " offset ") offset _ _ (omega arith) a (field (letters " period ") period _ _ (omega arith) b ended)

refusal_short : (number place : ℕ) → Figure number → Figure place → length (text_of (refusal_line number place)) ≤ 20
unfolding refusal
refusal_short number place a b = field (letters "refused ") number _ _ (omega arith) a (field (letters " ") place _ _ (omega arith) b ended)

-- So many lines, each with at most k bytes.
pub lines_short : (item : ℕ → List (List ℕ)) (k r i : ℕ) → ((m : ℕ) → m < i + r → length (text_of (item m)) ≤ k) → length (text_of (joined item r i)) ≤ r * k
unfolding joined text_of
lines_short item k zero i w = omega arith
lines_short item k (suc r) i w =
    let next : (m : ℕ) → m < i + 1 + r → length (text_of (item m)) ≤ k = λ m l. w m (omega arith) in
    let rest = lines_short item k r (i + 1) next in
    omega (arith, text_append (item i) (joined item r (i + 1)), w i (omega arith), rest)

-- What a refused reading prints.
pub told_short : {A : Type 0} (o : Outcome A) (number place : ℕ) → o ≡ refused number place → Near 763 o → number ≤ 22 → length (text_of (refusal_line number place)) ≤ 8192
told_short o number place e near most =
    omega (arith, refusal_short number place (record { is = omega arith }) (record { is = omega (arith, (near number place e).1) }))
