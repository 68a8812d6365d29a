use borrow.Author.Rules.{rules}
use borrow.Author.Tests.{ne_eqb}
use native.Mathlib.Omega.{arith}
use Rattle.site.specs.Sites.{live}
use Rattle.site.proofs.Laws.Flows.{left_start, left_live, left_idle}
use Rattle.moves.proofs.Laws.Moves.{kept_start, kept_live, kept_dead, stepped_start, stepped_live, stepped_dead, stepped_end}
use Rattle.moves.proofs.move_all.Goals as goal
use Rattle.moves.proofs.move_all.Goals.{else-site-n-eq1, then-site-n-eq1}

pub loop-n-init : goal.loop-n-init
loop-n-init c = (kept_start _ c.requires.counted, left_start _ _ c.flow_count-left.ensures, stepped_start _ _ _ _)

pub loop-n-preserved : goal.loop-n-preserved
unfolding live
loop-n-preserved c =
    let here = c.loop-n.invariant in
    let few = c.loop-n-test.true in
    elim c.if-site-n-eq1.branch [
      | then-site-n-eq1 w ↦ rw w.counters-is (
        kept_live _ _ _ here.0 few _ _ _ w.move_packets.ensures,
        left_live _ _ _ _ here.1 w.if-site-n-eq1.true (omega arith) w.left-is,
        stepped_live _ _ _ _ _ _ here.0 here.2 few w.if-site-n-eq1.true _ _ c.periods_sending-sending.ensures (search rules) w.move_packets.ensures,
      )
      | else-site-n-eq1 w ↦ rw w.counters-is (
        kept_dead _ _ _ here.0 few,
        left_idle _ _ _ _ here.1 w.if-site-n-eq1.false w.left-is,
        stepped_dead _ _ _ _ _ _ here.0 here.2 few (ne_eqb _ _ w.if-site-n-eq1.false),
      )
    ]

pub returns-after-loop-n : goal.returns-after-loop-n
returns-after-loop-n c =
    let here = c.loop-n.invariant in stepped_end _ _ _ _ _ _ here.0 here.2 (λ k a b. absurd (omega (arith, c.loop-n-test.false)))
