use borrow.Author.Rules.{rules}
use native.Mathlib.Omega.{arith}
use Rattle.moves.proofs.Laws.Moves.{moving_start, moving_more, moving_end, moving_out, moved_in}
use Rattle.moves.proofs.move_packets.Goals as goal

pub loop-k-init : goal.loop-k-init
loop-k-init c = moving_start _ _ _ c.args.arrival _ _ c.args.cells.now c.requires.1 (omega arith)

pub loop-k-preserved : goal.loop-k-preserved
loop-k-preserved c =
    moving_more _ _ _ _ _ _ _ _ c.loop-k.invariant _ c.parent_of-parent.ensures (search rules) c.if-node-parent.false _
    (moved_in _ _ _ _ c.from-rate.result c.from-period.result _ (omega arith) (omega arith) c.min-moved.ensures)

pub returns-then-node-parent : goal.returns-then-node-parent
returns-then-node-parent c = moving_end _ _ _ _ _ _ _ _ c.loop-k.invariant _ c.parent_of-parent.ensures (search rules) c.if-node-parent.true

pub returns : goal.returns
returns c = moving_out _ _ _ _ _ _ _ _ c.loop-k.invariant (search rules)
