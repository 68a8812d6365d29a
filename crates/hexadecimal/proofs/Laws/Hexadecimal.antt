-- The digits of a byte.
use Prim.Native.Nat.{ℕ, ◌+◌, ◌*◌, ◌/◌, ◌%◌, ◌<◌}
use mathlib.Core.Path.{◌≡◌}
use mathlib.Core.List.{[], ◌∷◌}
use native.Mathlib.Omega.{arith}
use Rattle.hexadecimal.specs.Hexadecimal.{hex_digit, hex_of}

-- A byte is shown by the digit of its high half and then by that of its low half.
pub hex_halves : (high low : ℕ) → low < 16 → hex_of (16 * high + low) ≡ hex_digit high ∷ hex_digit low ∷ []
unfolding hex_of
hex_halves high low l =
    let a : (16 * high + low) / 16 ≡ high = omega arith in
    let b : (16 * high + low) % 16 ≡ low = omega arith in
    rw (a, b)
