use Prim.Native.Nat.{◌<◌}
use Rattle.site.specs.Sites.{used}
use Rattle.reservations.specs.Reservations.{periods_judged}
use Rattle.moves.proofs.Laws.Moves.{sending_start, sending_yes, sending_no}
use Rattle.moves.proofs.periods_sending.Goals as goal
use Rattle.moves.proofs.periods_sending.Goals.{else-sends_in, then-sends_in}

pub loop-i-init : goal.loop-i-init
loop-i-init c = sending_start _ _

pub loop-i-preserved : goal.loop-i-preserved
unfolding periods_judged
loop-i-preserved c =
    let here : c.loop-i.i < used c.args.site.now.links = rw c.link_count-i-end.ensures at c.loop-i-test.true in
    elim c.if-sends_in.branch [
      | then-sends_in w ↦ rw w.sending-is (sending_yes _ _ _ _ c.loop-i.invariant here _ c.sends_in.ensures w.if-sends_in.true)
      | else-sends_in w ↦ rw w.sending-is (sending_no _ _ _ _ c.loop-i.invariant here _ c.sends_in.ensures w.if-sends_in.false)
    ]
