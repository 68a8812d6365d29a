-- What the inner functions tell their callers. The public promises cite none of this.
use Rattle.std.specs.Prelude.{ℕ, cond, List, [], leb, length, take}
use Rattle.rulings.specs.Outcome.{Outcome, accepted, refused}
use Rattle.hexadecimal.specs.Hexadecimal.{hex_text}
use Rattle.report_lines.specs.Lines.{refusal}

-- The first n bytes, where there are so many.
unfoldable pub front_text : ℕ → List ℕ → List (List ℕ)
front_text n bytes = cond (leb n (length bytes)) (hex_text (take n bytes)) []

-- What is shown of a writing and of the slice that it filled.
unfoldable pub written_shown : Outcome ℕ → List ℕ → List (List ℕ)
written_shown (accepted n) bytes = front_text n bytes
written_shown (refused number place) bytes = refusal number place
