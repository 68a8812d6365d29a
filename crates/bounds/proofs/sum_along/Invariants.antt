-- Right because the sum so far and that over the rest of the route are that over the whole, and a step adds at most one entry of 16 bits and goes to a smaller
-- number; the node's number falls.
use Prim.Native.Nat.{◌+◌, ◌*◌, ◌≤◌}
use mathlib.Core.Path.{◌≡◌}
use Rattle.tree.specs.Tree.{route}
use Rattle.reservations.specs.Reservations.{along}
use Rattle.bounds.proofs.sum_along.Given as goal

abbrev pub invariant-loop-n : goal.invariant-loop-n
invariant-loop-n l = (l.sum + along l.values (route l.parents l.n) ≡ along l.values (route l.parents l.node))
    × (l.sum + l.n * 65535 ≤ l.node * 65535)

abbrev pub decreases-loop-n : goal.decreases-loop-n
decreases-loop-n l = l.n
