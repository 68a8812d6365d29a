-- A text that was written into a space with room for it is handed over whole.
use Prim.Native.Nat.{ℕ, ◌≤◌}
use mathlib.Core.Path.{◌≡◌, ◌∙◌, ap}
use mathlib.Core.List.{List, ◌++◌}
use lib.ListN.{length, drop, length-append}
use borrow.Author.Tests.{le-ltb, le-leb}
use native.Mathlib.Omega.{arith}
use Rattle.rulings.specs.Outcome.{Outcome}
use Rattle.slices.specs.Written.{written}
use Rattle.printing.specs.Printed.{front}
use Rattle.printing.specs.Inner.{front_taken}

pub whole_taken : (text out new : List ℕ) (o : Outcome ℕ) (r : ℕ) → length text ≤ length out → (o, new) ≡ written text out → r ≡ front_taken o (length new)
    → r ≡ length text
unfolding written front front_taken
whole_taken text out new o r room e f =
    f ∙ ap (λ (w : Outcome ℕ × List ℕ). front_taken w.0 (length w.1)) e
    ∙ rw (
      le-ltb (length out) (length text) room,
      le-leb (length text) (length (text ++ drop (length text) out)) (omega (arith, length-append text (drop (length text) out))),
    )
