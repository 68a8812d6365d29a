-- The limits of nodes and flows say what the words say.
use Prim.Native.Nat.{ℕ, ◌≤◌}
use mathlib.Core.Path.{◌≡◌}
use mathlib.Core.Bool.{false}
use mathlib.Core.List.{List}
use mathlib.Core.Logic.{◌↔◌}
use native.Mathlib.Omega.{arith}
use Rattle.std.proofs.lemmas.Bool.Decides.{nat_tests}
use Rattle.site.specs.declared.Flow.{Flow}
use Rattle.tree.specs.Tree.{up}
use Rattle.tree.proofs.Laws.Tree.{depth_same}
use Rattle.limits.specs.declared.Node.{Node}
use Rattle.limits.specs.Limits.{bad_node, bad_flow, node_limits, misplaced, flow_limits}
use Rattle.limits.specs.Words.{NodeWithin, NodeGood, FlowWithin, FlowGood}

-- 5 in words.
pub node_within_lem : (n : Node) → (bad_node n ≡ false) ↔ NodeWithin n
unfolding bad_node
node_within_lem n = (
  λ e. record {
    capacity_some = grind (arith, nat_tests);
    capacity_most = grind (arith, nat_tests);
    gap_some = grind (arith, nat_tests);
    gap_most = grind (arith, nat_tests);
  },
  λ g. grind (arith, nat_tests),
)

pub flow_within_lem : (f : Flow) → (bad_flow f ≡ false) ↔ FlowWithin f
unfolding bad_flow
flow_within_lem f = (
  λ e. record {
    number_most = grind (arith, nat_tests);
    rate_some = grind (arith, nat_tests);
    rate_most = grind (arith, nat_tests);
    deadline_some = grind (arith, nat_tests);
    deadline_most = grind (arith, nat_tests);
  },
  λ g. grind (arith, nat_tests),
)

-- What a node has that passes 5, 6 and 8 after k others with these parents.
pub node_good : (parents : List ℕ) (k : ℕ) (n : Node) → (node_limits parents k n ≡ 0) ↔ NodeGood parents k n
unfolding node_limits
node_good parents k n = (
  λ e. record {
    within = (node_within_lem n).0 (grind (arith, nat_tests));
    parent_below = grind (arith, nat_tests);
    depth_most = grind (arith, nat_tests);
  },
  λ g. let within = (node_within_lem n).1 g.within in grind (arith, nat_tests),
)

-- What a flow has that passes 5 and 6.
pub flow_good : (links next : ℕ) (f : Flow) → (flow_limits links next f ≡ 0) ↔ FlowGood links next f
unfolding flow_limits misplaced
flow_good links next f = (
  λ e. record {
    within = (flow_within_lem f).0 (grind (arith, nat_tests));
    entry_some = grind (arith, nat_tests);
    entry_most = grind (arith, nat_tests);
    number_least = grind (arith, nat_tests);
  },
  λ g. let within = (flow_within_lem f).1 g.within in grind (arith, nat_tests),
)

-- The limits of a node look at the parents of the k nodes before it alone.
pub good_same : (p q : List ℕ) (k : ℕ) (n : Node) → ((m : ℕ) → m ≤ k → up p m ≡ up q m) → NodeGood q k n → NodeGood p k n
good_same p q k n same w = record {
  within = w.within;
  parent_below = w.parent_below;
  depth_most = rw (depth_same p q n.parent (λ m l. same m (omega (arith, w.parent_below)))) w.depth_most;
}

-- A flow within its limits is so on a site with more links, and from every number on that is not above its own.
pub good_wider : (links more next least : ℕ) (f : Flow) → links ≤ more → least ≤ f.number → FlowGood links next f → FlowGood more least f
good_wider links more next least f l h w = record {
  within = w.within;
  entry_some = w.entry_some;
  entry_most = omega (arith, w.entry_most);
  number_least = h;
}
