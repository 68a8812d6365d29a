-- Right because what the page held, with the text of the whole route, is what it holds with that of the route still to come; the node's number falls.
use Rattle.std.proofs.Common.{◌≡◌}
use Rattle.text.specs.Listed.{each}
use Rattle.text.specs.Page.{held}
use Rattle.text.specs.Put.{puts}
use Rattle.tree.specs.Tree.{route}
use Rattle.route_text.specs.Routes.{hop}
use Rattle.route_text.proofs.put_route.Given as goal

abbrev pub invariant-loop-node : goal.invariant-loop-node
invariant-loop-node l = record {
  same_space : l.page.space.ghost_name ≡ l.initial.page.space.ghost_name;
  to_come : puts (held l.page) (each hop (route l.parents l.node)) ≡ puts (held l.initial.page) (each hop (route l.parents l.entry));
}

abbrev pub decreases-loop-node : goal.decreases-loop-node
decreases-loop-node l = l.node
