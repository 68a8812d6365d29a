use borrow.Author.Rules.{rules}
use borrow.Author.Tests.{eq-eqb, ne_eqb}
use Prim.Native.Nat.{ℕ, ◌≤◌}
use lib.ListN.{get_or}
use native.Mathlib.Omega.{arith}
use mir.Val.{Fits}
use mir.Syntax.{w16}
use Rattle.lists.proofs.Laws.Listed.{get_or_replicated}
use Rattle.site.specs.Sites.{live}
use Rattle.site.proofs.Laws.Flows.{left_start, left_live, left_idle}
use Rattle.reservations.specs.Reservations.{periods_judged}
use Rattle.reservations.proofs.Laws.Reservations.{judging_start, judging_idle, judging_live, judging_end, carried_le, width_at_le}
use Rattle.link_loads.proofs.reserve.Goals as goal
use Rattle.link_loads.proofs.reserve.Goals.{then-site-n-eq1, else-site-n-eq1}

pub loop-n-init : goal.loop-n-init
loop-n-init c = record {
  room = λ i. omega (arith, get_or_replicated 63 i 0);
  to_come = left_start _ _ c.flow_count-left.ensures;
  judged = judging_start _;
}

pub loop-n-preserved : goal.loop-n-preserved
unfolding live periods_judged
loop-n-preserved c =
    let sofar = c.loop-n.invariant in
    elim c.if-site-n-eq1.branch [
      | then-site-n-eq1 w ↦ record {
        room = λ i.
            let h : (k : ℕ) → get_or c.args.site.now.periods k 0 ≤ 65535 = (λ k. let f : Fits w16 (get_or c.args.site.now.periods k 0) = search rules in omega (arith, f.fits)) in
            rw (w.loads-is, w.add_widths-sum.ensures.1) (omega (arith, sofar.room i, carried_le c.args.site.now.periods (get_or c.args.site.now.rates c.loop-n.n 0) 16711425 (width_at_le c.args.site.now.periods (get_or c.args.site.now.rates c.loop-n.n 0) (omega arith) h) c.args.site.now.parents (get_or c.args.site.now.entries c.loop-n.n 0) c.loop-n.loads i));
        to_come = left_live _ _ _ _ sofar.to_come w.if-site-n-eq1.true (omega arith) w.left-is;
        judged = rw (w.loads-is, w.late-is, w.first_late-late.ensures) (judging_live _ _ _ _ (omega arith) sofar.judged (eq-eqb _ _ w.if-site-n-eq1.true) _ _ w.add_widths-sum.ensures);
      }
      | else-site-n-eq1 w ↦ record {
        room = λ i. rw w.loads-is (omega (arith, sofar.room i));
        to_come = left_idle _ _ _ _ sofar.to_come w.if-site-n-eq1.false w.left-is;
        judged = rw (w.loads-is, w.late-is) (judging_idle _ _ _ _ (omega arith) sofar.judged (ne_eqb _ _ w.if-site-n-eq1.false));
      }
    ]

pub returns-after-loop-n : goal.returns-after-loop-n
returns-after-loop-n c =
    judging_end _ 0 _ _ _ (omega arith) (λ k a b. absurd (omega (arith, c.loop-n-test.false))) c.loop-n.invariant.judged
