-- 01, Plan bytes: how many bytes each command takes, its own byte among them.
use Rattle.std.specs.Prelude.{ℕ, cond, eqb}

-- NODE, 01, has operands of 8, 16 and 16 bits; FLOW, 02, of 8, 8, 8 and 16. Every other byte has 0: END, which has no operands and is judged by itself, and
-- what is no command of a plan.
unfoldable pub size_of : ℕ → ℕ
size_of tag = cond (eqb tag 1) 6 (cond (eqb tag 2) 6 0)

-- The same for schedules: LINK, 11 in hexadecimal, has operands of 8, 16 and 16 bits.
unfoldable pub schedule_size : ℕ → ℕ
schedule_size tag = cond (eqb tag 17) 6 0
