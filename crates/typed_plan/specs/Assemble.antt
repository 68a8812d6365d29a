-- A typed plan turned into plan bytes.
use Rattle.std.specs.Prelude.{ℕ, ◌+◌, cond, List, [], ◌∷◌, ◌++◌, ◌⊎◌, ltb, length, drop, Result, Ok, Err}
use Rattle.std.proofs.Common.{inl, inr}
use Rattle.rulings.specs.Outcome.{Outcome, accepted, refused}
use Rattle.text.specs.Put.{text_of}
use Rattle.line_words.specs.Parts.{lines_of}
use Rattle.plan_writer.specs.Write.{node_command, flow_command}
use Rattle.typed_line.specs.Lines.{Typed, Nothing, Node, Flow, Bad, command_number, typed_line}
use Rattle.typed_plan.specs.declared.AssembleError.{AssembleError}
use Rattle.typed_plan.specs.declared.AssembleError.TheVariants.{WrongLine, NoRoom, TooLong}

-- What a text comes to: the number of bytes stored; the number of a wrong line, its command and the place of its first wrong word; a slice without room; or a
-- text that is too long.
pub data Assembled : Type 0 where
  Length : ℕ → Assembled
  BadLine : ℕ → ℕ → ℕ → Assembled
  Short : Assembled
  Long : Assembled

-- What each answer says of that.
abbrev pub assembled : Result ℕ AssembleError → Assembled
assembled (Ok n) = Length n
assembled (Err (WrongLine line mistake)) = BadLine line (command_number mistake.named) mistake.place
assembled (Err NoRoom) = Short
assembled (Err TooLong) = Long

-- A text that has no plan: the number of its first wrong line, its command and the place of its first wrong word; or it is too long to be read. 01 knows
-- plans as bytes alone, so that neither has a number in its tables.
pub data NoPlan : Type 0 where
  wrong_line : ℕ → ℕ → ℕ → NoPlan
  too_long : NoPlan

-- What each case of an answer says in the terms of 01's tables: the number of bytes written, or 1 with place 0, since the slice that is filled is too
-- short; beside them stand the texts without a plan.
unfoldable pub assembling : Assembled → Outcome ℕ ⊎ NoPlan
assembling (Length n) = inl (accepted n)
assembling Short = inl (refused 1 0)
assembling (BadLine k command place) = inr (wrong_line k command place)
assembling Long = inr too_long

-- The command of a line, if it has one.
unfoldable pub piece_of : Typed → List (List ℕ)
piece_of Nothing = []
piece_of (Node parent capacity gap) = node_command parent capacity gap ∷ []
piece_of (Flow number entry rate deadline) = flow_command number entry rate deadline ∷ []
piece_of (Bad command place) = []

-- The commands of lines, and END behind them.
unfoldable pub pieces_of : List (List ℕ) → List (List ℕ)
pieces_of [] = (255 ∷ []) ∷ []
pieces_of (l ∷ ls) = piece_of (typed_line l) ++ pieces_of ls

-- The plan bytes of a text.
unfoldable pub plan_typed : List ℕ → List ℕ
plan_typed text = text_of (pieces_of (lines_of text))

-- A line that is wrong is told with its number, its command and the place of its first wrong word; of any other the answer is another.
unfoldable pub wrong_or : Typed → ℕ → Assembled → Assembled
wrong_or (Bad command place) k other = BadLine k command place
wrong_or Nothing k other = other
wrong_or (Node parent capacity gap) k other = other
wrong_or (Flow number entry rate deadline) k other = other

-- The first wrong line, of which the first has number k; where none is wrong, the answer is another.
unfoldable pub first_wrong : List (List ℕ) → ℕ → Assembled → Assembled
first_wrong [] k other = other
first_wrong (l ∷ ls) k other = wrong_or (typed_line l) k (first_wrong ls (k + 1) other)

-- A plan of n bytes is stored at the front of a slice that has room for it; every other answer leaves the slice.
unfoldable pub stored_plan : Assembled → List ℕ → List ℕ → Assembled × List ℕ
stored_plan (Length n) plan out = cond (ltb (length out) n) (Short, out) (Length n, plan ++ drop n out)
stored_plan (BadLine k command place) plan out = (BadLine k command place, out)
stored_plan Short plan out = (Short, out)
stored_plan Long plan out = (Long, out)

-- What a text of at most 65,535 bytes and a slice come to.
unfoldable pub assembled_of : List ℕ → List ℕ → Assembled × List ℕ
assembled_of text out =
    cond (ltb 65535 (length text)) (Long, out) (stored_plan (first_wrong (lines_of text) 1 (Length (length (plan_typed text)))) (plan_typed text) out)
