-- What a line of a typed plan says.
use Rattle.std.specs.Prelude.{ℕ, ◌+◌, cond, List, [], ◌∷◌, eqb, Option, Some, None, Result, Ok, Err}
use Rattle.text.specs.Letters.{letters}
use Rattle.text.specs.Decimal.{is_number}
use Rattle.line_words.specs.Parts.{is, before}
use Rattle.line_words.specs.Words.{words_of, said}
use Rattle.lists.specs.Lists.{same}
use Rattle.typed_line.specs.declared.Kind.{Kind}
use Rattle.typed_line.specs.declared.Kind.TheVariants.{Node as a_node, Flow as a_flow}
use Rattle.typed_line.specs.declared.Command.{Command}
use Rattle.typed_line.specs.declared.Command.TheVariants.{Node as node, Flow as flow}
use Rattle.typed_line.specs.declared.Mistake.{Mistake}

-- What a line of a typed plan says: nothing; the operands of a NODE, or of a FLOW; or that it is wrong, with its command, 0 for none, and the place of its
-- first wrong word.
pub data Typed : Type 0 where
  Nothing : Typed
  Node : ℕ → ℕ → ℕ → Typed
  Flow : ℕ → ℕ → ℕ → ℕ → Typed
  Bad : ℕ → ℕ → Typed

-- What each answer says of a line.
abbrev pub command_number : Option Kind → ℕ
command_number None = 0
command_number (Some a_node) = 1
command_number (Some a_flow) = 2

abbrev pub command_said : Command → Typed
command_said (node parent capacity gap) = Node parent capacity gap
command_said (flow number entry rate deadline) = Flow number entry rate deadline

abbrev pub typed_command : Result Command Mistake → Typed
typed_command (Ok command) = command_said command
typed_command (Err mistake) = Bad (command_number mistake.named) mistake.place

abbrev pub typed : Result (Option Command) Mistake → Typed
typed (Ok None) = Nothing
typed (Ok (Some command)) = command_said command
typed (Err mistake) = Bad (command_number mistake.named) mistake.place

-- The place of the first wrong word, of which the first has place k: one that is missing, that is no number up to its limit, or that is too many. 0 where
-- none is wrong.
unfoldable pub wrong : List ℕ → List (List ℕ) → ℕ → ℕ
wrong [] [] k = 0
wrong [] (w ∷ ws) k = k
wrong (m ∷ ms) [] k = k
wrong (m ∷ ms) (w ∷ ws) k = cond (is_number w m) (wrong ms ws (k + 1)) k

-- 01, command 01: each operand of a NODE has to fit its width, and nothing else is judged here; the same of command 02, FLOW.
abbrev pub node_widths : List ℕ
node_widths = 255 ∷ 65535 ∷ 65535 ∷ []

abbrev pub flow_widths : List ℕ
flow_widths = 255 ∷ 255 ∷ 255 ∷ 65535 ∷ []

-- A wrong line tells its command, 0 for none, and the place of its first wrong word.
unfoldable pub node_said : List (List ℕ) → Typed
node_said words = cond (eqb (wrong node_widths words 2) 0) (Node (said words 0) (said words 1) (said words 2)) (Bad 1 (wrong node_widths words 2))

unfoldable pub flow_said : List (List ℕ) → Typed
flow_said words =
    cond (eqb (wrong flow_widths words 2) 0) (Flow (said words 0) (said words 1) (said words 2) (said words 3)) (Bad 2 (wrong flow_widths words 2))

unfoldable pub command_of : List (List ℕ) → Typed
command_of [] = Nothing
command_of (name ∷ words) = cond (same name (letters "node")) (node_said words) (cond (same name (letters "flow")) (flow_said words) (Bad 0 1))

-- A comment goes from the first # to the end of the line.
unfoldable pub typed_line : List ℕ → Typed
typed_line line = command_of (words_of (before (is 35) line))
