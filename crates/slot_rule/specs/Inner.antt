-- What the functions of the slot rule ask of each other. The public promise cites none of this.
use Rattle.std.specs.Prelude.{ℕ, zero, suc, ◌+◌, ◌<◌, ◌≤◌, Bool, true, false, List, length, get_or}
use Rattle.slot_rule.specs.Rule.{free_offset}

-- How many of the numbers below n have the test.
abbrev pub bit : Bool → ℕ
bit true = 1
bit false = 0

unfoldable pub count : (ℕ → Bool) → ℕ → ℕ
count p zero = 0
count p (suc n) = bit (p n) + count p n

-- A factor from 2 up, and a base that rule 1 allows for these gaps.
pub record AllowedBase (f b : ℕ) (gaps : List ℕ) : Type 0 where
  pub two : 2 ≤ f
  pub one : 1 ≤ b
  pub within : (i : ℕ) → i < length gaps → b ≤ get_or gaps i 0

-- Each child finds a free offset below its period, whatever the offsets of those before it.
pub record Roomy (ps : List ℕ) : Type 0 where
  pub room : (os : List ℕ) (i : ℕ) → i < length ps → free_offset ps os (get_or ps i 0) i < get_or ps i 0
