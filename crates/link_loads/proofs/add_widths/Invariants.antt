-- Right because the widths and the periods from the node up, added to the loads and the sum so far, give those of the whole route, and the links to come have the
-- loads of the start, which with one width more fit in 32 bits; the node's number falls.
use Prim.Native.Nat.{ℕ, ◌+◌, ◌*◌, ◌≤◌, ◌<◌}
use mathlib.Core.Path.{◌≡◌}
use lib.ListN.{get_or}
use Rattle.tree.specs.Tree.{route}
use Rattle.reservations.specs.Reservations.{along}
use Rattle.reservations.specs.Inner.{carried}
use Rattle.link_loads.proofs.add_widths.Given as goal

abbrev pub invariant-loop-node : goal.invariant-loop-node
invariant-loop-node l = record {
  widths : carried l.site.periods l.rate (route l.site.parents l.node) l.loads
      ≡ carried l.site.periods l.rate (route l.site.parents l.entry) l.initial.loads;
  ahead : (i : ℕ) → i < l.node → get_or l.loads i 0 ≡ get_or l.initial.loads i 0;
  periods : l.sum + along l.site.periods (route l.site.parents l.node) ≡ along l.site.periods (route l.site.parents l.entry);
  room : l.sum + l.node * 65535 ≤ l.entry * 65535;
}

abbrev pub decreases-loop-node : goal.decreases-loop-node
decreases-loop-node l = l.node
