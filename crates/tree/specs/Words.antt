-- Routes in words. The laws of proofs/Laws/Tree.antt say that the definitions mean this.
use Rattle.std.specs.Prelude.{ℕ, ◌<◌, List, [], ◌∷◌}
use Rattle.tree.specs.Tree.{up}

-- 01, the list of demand 3: a route that reaches the root. Each number is a node's, and the next is its parent's.
pub data Leads (parents : List ℕ) : ℕ → List ℕ → Type 0 where
  root : Leads parents 0 []
  link : (n : ℕ) (ms : List ℕ) → up parents n < n → Leads parents (up parents n) ms → Leads parents n (n ∷ ms)
