-- An answer of 64 bits and the outcome that it tells.
use Rattle.std.specs.Prelude.{ℕ, ◌+◌, ◌*◌, ◌/◌, ◌%◌, ◌^◌, ◌≤◌, ◌<◌, ◌≡◌, cond, eqb}
use Rattle.rulings.specs.Outcome.{Outcome, Ruling, accepted, refused}

-- An answer of 64 bits in the terms of 01's tables: the highest 8 bits are 0 where the call is accepted with the value of the others, and else the
-- number of a refusal, whose place the others are.
unfoldable pub told : ℕ → Outcome ℕ
told answer = cond (eqb (answer / 2 ^ 56) 0) (accepted (answer % 2 ^ 56)) (refused (answer / 2 ^ 56) (answer % 2 ^ 56))

-- The answer that an outcome is put into. It tells that outcome where there is room for it: the law `told_answer`.
unfoldable pub answer_of : Outcome ℕ → ℕ
answer_of (accepted value) = value % 2 ^ 56
answer_of (refused number place) = number * 2 ^ 56 + place % 2 ^ 56

-- The answer of a call that gives this value where it is accepted.
unfoldable pub valued : Ruling → ℕ → Outcome ℕ
valued (accepted a) value = accepted value
valued (refused number place) value = refused number place

-- A refusal of this outcome has room in an answer.
pub record Tellable {A : Type 0} (o : Outcome A) : Type 0 where
  pub near : (number place : ℕ) → o ≡ refused number place → (1 ≤ number) × (place < 2 ^ 56)

-- So has its value.
pub record Short (o : Outcome ℕ) : Type 0 where
  pub low : (value : ℕ) → o ≡ accepted value → value < 2 ^ 56
