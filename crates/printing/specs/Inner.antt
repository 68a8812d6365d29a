-- What the inner functions tell their callers. The public promises cite none of this.
use Rattle.std.specs.Prelude.{ℕ}
use Rattle.rulings.specs.Outcome.{Outcome, accepted, refused}
use Rattle.printing.specs.Printed.{front}

-- As many bytes as were written to the front of a text; none where the writing was refused.
unfoldable pub front_taken : Outcome ℕ → ℕ → ℕ
front_taken (accepted n) room = front n room
front_taken (refused number place) room = 0
