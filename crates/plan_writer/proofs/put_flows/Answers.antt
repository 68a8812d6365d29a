use mathlib.Core.Path.{◌≡◌, sym, ◌∙◌, ap}
use lib.ListN.{length}
use borrow.Author.Tests.{eqb-true, eqb-false}
use native.Mathlib.Omega.{arith}
use Rattle.site.specs.Sites.{live}
use Rattle.slices.proofs.Laws.Stores.{stored_room, stored_end}
use Rattle.plan_writer.specs.Write.{flow_bytes}
use Rattle.plan_writer.proofs.Laws.Write.{flow_made, flow_size, live_bytes, idle_bytes, stored_sized, stored_none}
use Rattle.plan_writer.proofs.put_flows.Goals as goal
use Rattle.plan_writer.proofs.put_flows.Goals.{then-is_live, else-is_live}

pub overflow_add-at : goal.overflow_add-at
unfolding live
overflow_add-at c =
    let own : c.flow_command-command.result ≡ flow_bytes c.args.site.now c.loop-number.number = c.flow_command-command.ensures ∙ flow_made _ _ in
    let room = stored_room _ _ _ _ _ _ _ c.loop-number.invariant _ (omega arith) (own ∙ live_bytes _ _ (eqb-true _ _ (sym c.is_live.ensures ∙ c.if-is_live.true))) in
    omega (arith, c.size-at.ensures, flow_size c.args.site.now c.loop-number.number, ap length own)

pub loop-number-preserved : goal.loop-number-preserved
unfolding live
loop-number-preserved c =
    elim c.if-is_live.branch [
      | then-is_live w ↦
          let own : w.flow_command-command.result ≡ flow_bytes c.args.site.now c.loop-number.number = w.flow_command-command.ensures ∙ flow_made _ _ in
          rw (w.out-is, w.at-is)
          (stored_sized _ _ _ _ (omega arith) _ _ _ c.loop-number.invariant (omega arith) _
          (own ∙ live_bytes _ _ (eqb-true _ _ (sym c.is_live.ensures ∙ w.if-is_live.true))) _ _ w.put-at.ensures _
          (omega (arith, w.size-at.ensures, flow_size c.args.site.now c.loop-number.number, ap length own)))
      | else-is_live w ↦
          rw (w.out-is, w.at-is)
          (stored_none _ _ _ _ (omega arith) _ _ _ c.loop-number.invariant (omega arith) (idle_bytes _ _ (eqb-false _ _ (sym c.is_live.ensures ∙ w.if-is_live.false))))
    ]

pub returns-clause-bytes : goal.returns-clause-bytes
returns-clause-bytes c = (stored_end _ _ _ _ _ _ _ c.loop-number.invariant (omega arith)).0

pub returns-clause-end : goal.returns-clause-end
returns-clause-end c = (stored_end _ _ _ _ _ _ _ c.loop-number.invariant (omega arith)).1
