-- What the functions for single commands tell, whatever they are handed. The promises of operations cite none of this.
use Rattle.std.specs.Prelude.{ℕ, ◌+◌, ◌≡◌, Bool, cond, List, ltb, leb, length}
use Rattle.site.specs.declared.Flow.{Flow}
use Rattle.limits.specs.declared.Node.{Node}
use Rattle.plan_commands.specs.Commands.{Draft, node_at, flow_at, fault}

-- All that the checks of a command look at in what has been read.
pub record Known (d : Draft) (links next : ℕ) (parents : List ℕ) : Type 0 where
  pub many : d.site.links ≡ links
  pub least : d.next ≡ next
  pub tree : d.site.parents ≡ parents

-- 01, 10: bytes stand behind an END at index `at`.
unfoldable pub more_behind : ℕ → ℕ → Bool
more_behind size at = ltb (at + 1) size

-- The operands of a NODE, of a FLOW, and zeros where not all of their bytes are there.
unfoldable pub node_within : List ℕ → ℕ → Node
node_within bytes at = cond (leb (at + 6) (length bytes)) (node_at bytes at) (record { parent = 0; capacity = 0; gap = 0 })

unfoldable pub flow_within : List ℕ → ℕ → Flow
flow_within bytes at = cond (leb (at + 6) (length bytes)) (flow_at bytes at) (record { number = 0; entry = 0; rate = 0; deadline = 0 })

-- The first check that a command fails, and 2 behind the last byte: 01 has bytes that end without END as cut off.
unfoldable pub fault_at : List ℕ → ℕ → Draft → ℕ
fault_at bytes at d = cond (ltb at (length bytes)) (fault bytes at d) 2
