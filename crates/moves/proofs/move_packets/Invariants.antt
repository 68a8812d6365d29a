-- Right because `Moving` holds: from the cells as they are, the links from the node up give what all of them gave at the start; no sum leaves 32 bits, since all
-- packets together fit; behind the last cell nothing is left.
use lib.ListN.{get_or}
use Rattle.queues.specs.Cells.{step}
use Rattle.moves.specs.Inner.{in_slot, hops_in}
use Rattle.moves.proofs.Laws.Moves.{Moving}
use Rattle.moves.proofs.move_packets.Given as goal

abbrev pub invariant-loop-k : goal.invariant-loop-k
invariant-loop-k l =
    let rate = get_or l.site.rates l.flow 0 in
    Moving (in_slot l.sending rate) l.site.parents 0 (step (hops_in l.site.parents l.sending rate (get_or l.site.entries l.flow 0)) 0 l.arrival l.fn.cells)
    l.cells l.coming l.k l.node
