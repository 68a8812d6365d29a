-- What the test programs print of a writer's answer, and the bytes that they lend to a writer.
use Rattle.std.specs.Prelude.{ℕ, ◌+◌, List, [], ◌∷◌, ◌++◌, length}
use Rattle.rulings.specs.Outcome.{Outcome, accepted, refused}
use Rattle.lists.specs.Lists.{joined}
use Rattle.slices.specs.Put.{put}
use Rattle.text.specs.Letters.{letters}
use Rattle.text.specs.Decimal.{decimal}
use Rattle.text.specs.Listed.{each}
use Rattle.hexadecimal.specs.Hexadecimal.{spaced_hex}
use Rattle.report_lines.specs.Lines.{refusal}
use Rattle.printing.specs.Printed.{front}

-- The number of bytes written, or the refusal.
unfoldable pub written_text : List ℕ → Outcome ℕ → List (List ℕ)
written_text name (accepted n) = name ∷ letters " " ∷ decimal n ∷ []
written_text name (refused number place) = name ∷ letters " " ∷ refusal number place

-- That, and what the slice holds then.
unfoldable pub left_text : List ℕ → Outcome ℕ → List ℕ → List (List ℕ)
left_text name o bytes = written_text name o ++ (letters ":" ∷ each spaced_hex bytes)

-- 64 bytes: byte i is 100 + i.
unfoldable pub numbered_bytes : List ℕ
numbered_bytes = joined (λ i. (100 + i) ∷ []) 64 0

-- The bytes that are handed over of a space, and the space; and the same once a newline stands behind the bytes that are taken.
abbrev pub shown : ℕ × List ℕ → ℕ × List ℕ
shown s = (front s.0 (length s.1), s.1)

unfoldable pub line_shown : ℕ × List ℕ → ℕ × List ℕ
line_shown s = shown (put s (10 ∷ []))
