-- The limits of nodes and flows in words. The laws of proofs/Laws/Forms.antt say that the definitions mean this.
use Rattle.std.specs.Prelude.{ℕ, ◌+◌, ◌≤◌, ◌<◌, ◌≡◌, List, ◌⊎◌}
use Rattle.rulings.specs.Outcome.{Checks, check}
use Rattle.site.specs.declared.Flow.{Flow}
use Rattle.tree.specs.Tree.{depth_of}
use Rattle.limits.specs.declared.Node.{Node}

-- 01, 5: the operands of a NODE are within their limits.
pub record NodeWithin (n : Node) : Type 0 where
  pub capacity_some : 1 ≤ n.capacity
  pub capacity_most : n.capacity ≤ 65535
  pub gap_some : 1 ≤ n.gap
  pub gap_most : n.gap ≤ 1024

-- A node that comes after k others with these parents: it is within its limits, its parent is one of these k or the root, and its depth is at most 8.
pub record NodeGood (parents : List ℕ) (k : ℕ) (n : Node) : Type 0 where
  pub within : NodeWithin n
  pub parent_below : n.parent ≤ k
  pub depth_most : depth_of parents n.parent + 1 ≤ 8

-- 01, 5: the operands of a FLOW are within their limits.
pub record FlowWithin (f : Flow) : Type 0 where
  pub number_most : f.number ≤ 63
  pub rate_some : 1 ≤ f.rate
  pub rate_most : f.rate ≤ 255
  pub deadline_some : 1 ≤ f.deadline
  pub deadline_most : f.deadline ≤ 65535

-- A flow on a site with so many links: it is within its limits, it enters at one of the nodes and not at the root, and its number is at least `next`.
pub record FlowGood (links next : ℕ) (f : Flow) : Type 0 where
  pub within : FlowWithin f
  pub entry_some : 1 ≤ f.entry
  pub entry_most : f.entry ≤ links
  pub number_least : next ≤ f.number

-- 01, 5 and 6 for a flow that is not one of a plan: no number has to be above another.
abbrev pub flow_checks : ℕ → Flow → Checks → Checks
flow_checks links f others =
    check 5 (λ p. (FlowWithin f → ⊥) × (p ≡ 0))
    (check 6 (λ p. ((f.entry ≡ 0) ⊎ (links < f.entry)) × (p ≡ 0))
    others)
