use borrow.Author.Rules.{rules}
use Prim.Native.Nat.{ℕ}
use mathlib.Core.Path.{refl, sym, ◌∙◌}
use native.Mathlib.Omega.{arith}
use Rattle.std.proofs.lemmas.Result.{err_from_is_err_and}
use Rattle.rulings.specs.Outcome.{settled}
use Rattle.plan_commands.specs.Commands.{plans, node_added, flow_added}
use Rattle.plan_commands.proofs.Laws.Commands.{end_more, end_last, fault_at_command}
use Rattle.plan_commands.proofs.Laws.Decode.{decode_start}
use Rattle.plan_reader.proofs.Laws.Commands.{refused_form, accepted_form, size_fits, node_fits, flow_fits, node_goes, flow_goes, node_read, flow_read}
use Rattle.format.proofs.Laws.Reading.{read_out, read_end, read_fault}
use Rattle.plan_commands.specs.Inner.{Known}
use Rattle.site.specs.declared.Site.{Site}
use Rattle.plan_reader.proofs.read_with.Invariants.{reading}
use Rattle.plan_reader.proofs.read_with.Goals as goal

known : (s : Site) (n : ℕ) → Known (reading s n) s.links n s.parents
known s n = record { many = refl; least = refl; tree = refl }

pub loop-at-init : goal.loop-at-init
loop-at-init c = record { kept = refl; reads = rw c.empty-site.ensures (sym (decode_start _)) }

pub returns-then-more_behind-clause-site : goal.returns-then-more_behind-clause-site
returns-then-more_behind-clause-site c =
    rw c.at.ensures (refused_form _ _ _ (end_more _ _ (reading c.loop-at.site c.loop-at.next) _ c.more_behind.ensures c.if-more_behind.true
    ∙ sym (read_end plans _ _ _ (omega arith) c.if-tag.true) ∙ c.loop-at.invariant.reads))

pub returns-in_err-settle-clause-site : goal.returns-in_err-settle-clause-site
returns-in_err-settle-clause-site c =
    let p = err_from_is_err_and c.from_residual.result c.from_residual.ensures.1 in
    rw (p.1, p.2) (c.in_err-settle.ensures.judged ∙ accepted_form _ _ (end_last _ _ (reading c.loop-at.site c.loop-at.next) _ c.more_behind.ensures c.if-more_behind.false
    ∙ sym (read_end plans _ _ _ (omega arith) c.if-tag.true) ∙ c.loop-at.invariant.reads))

pub returns-in_err-settle-clause-loads : goal.returns-in_err-settle-clause-loads
unfolding settled
returns-in_err-settle-clause-loads c =
    let p = err_from_is_err_and c.from_residual.result c.from_residual.ensures.1 in
    rw p.1 (c.in_err-settle.ensures.loads ∙ c.loop-at.invariant.kept)

pub returns-then-tag-clause-site : goal.returns-then-tag-clause-site
returns-then-tag-clause-site c =
    c.in_ok-settle.ensures.judged
    ∙ accepted_form _ _ (end_last _ _ (reading c.loop-at.site c.loop-at.next) _ c.more_behind.ensures c.if-more_behind.false
    ∙ sym (read_end plans _ _ _ (omega arith) c.if-tag.true) ∙ c.loop-at.invariant.reads)

pub returns-then-tag-clause-loads : goal.returns-then-tag-clause-loads
unfolding settled
returns-then-tag-clause-loads c = c.in_ok-settle.ensures.loads

pub returns-in-Err-clause-site : goal.returns-in-Err-clause-site
returns-in-Err-clause-site c =
    rw c.at-in-Err.ensures (refused_form _ _ _ (sym (read_fault plans _ _ (reading c.loop-at.site c.loop-at.next) (omega arith) c.if-tag.false _
    (c.in-Err.ensures _ (known _ _) ∙ fault_at_command _ _ _ (omega arith))) ∙ c.loop-at.invariant.reads))

pub take_node-requires : goal.take_node-requires
take_node-requires c = node_fits _ _ (reading c.loop-at.site c.loop-at.next) (omega arith) (c.in_default.ensures _ (known _ _)) c.in-1.is

pub take_flow-requires : goal.take_flow-requires
take_flow-requires c = flow_fits _ _ (reading c.loop-at.site c.loop-at.next) (omega arith) (c.in_default.ensures _ (known _ _)) (search rules) _ c.flow_at-flow.ensures

pub overflow_add-next : goal.overflow_add-next
overflow_add-next c = omega (arith, flow_fits _ _ (reading c.loop-at.site c.loop-at.next) (omega arith) (c.in_default.ensures _ (known _ _)) (search rules) _ c.flow_at-flow.ensures)

pub overflow_add-at-in-1 : goal.overflow_add-at-in-1
overflow_add-at-in-1 c = omega (arith, size_fits _ _ (reading c.loop-at.site c.loop-at.next) (omega arith) (c.in_default.ensures _ (known _ _)) _ (node_goes _ _ (reading c.loop-at.site c.loop-at.next) (omega arith) (c.in_default.ensures _ (known _ _)) c.in-1.is _ c.size-at.ensures))

pub loop-at-smaller-in-1 : goal.loop-at-smaller-in-1
loop-at-smaller-in-1 c = omega (arith, size_fits _ _ (reading c.loop-at.site c.loop-at.next) (omega arith) (c.in_default.ensures _ (known _ _)) _ (node_goes _ _ (reading c.loop-at.site c.loop-at.next) (omega arith) (c.in_default.ensures _ (known _ _)) c.in-1.is _ c.size-at.ensures))

pub loop-at-preserved-in-1 : goal.loop-at-preserved-in-1
unfolding node_added
loop-at-preserved-in-1 c = record {
  kept = c.loop-at.invariant.kept;
  reads =
      rw c.take_node.ensures (node_read _ _ (reading c.loop-at.site c.loop-at.next) (omega arith) (c.in_default.ensures _ (known _ _)) c.if-tag.false c.loop-at.invariant.reads _
      (node_goes _ _ (reading c.loop-at.site c.loop-at.next) (omega arith) (c.in_default.ensures _ (known _ _)) c.in-1.is _ c.size-at.ensures) c.in-1.is _ c.node_at.ensures);
}

pub overflow_add-at-in_default-tag : goal.overflow_add-at-in_default-tag
overflow_add-at-in_default-tag c = omega (arith, size_fits _ _ (reading c.loop-at.site c.loop-at.next) (omega arith) (c.in_default.ensures _ (known _ _)) _ (flow_goes _ _ (reading c.loop-at.site c.loop-at.next) (omega arith) (c.in_default.ensures _ (known _ _)) (search rules) _ c.size-at-in_default-tag.ensures))

pub loop-at-smaller : goal.loop-at-smaller
loop-at-smaller c = omega (arith, size_fits _ _ (reading c.loop-at.site c.loop-at.next) (omega arith) (c.in_default.ensures _ (known _ _)) _ (flow_goes _ _ (reading c.loop-at.site c.loop-at.next) (omega arith) (c.in_default.ensures _ (known _ _)) (search rules) _ c.size-at-in_default-tag.ensures))

pub loop-at-preserved : goal.loop-at-preserved
unfolding flow_added
loop-at-preserved c = record {
  kept = c.loop-at.invariant.kept;
  reads =
      rw c.take_flow.ensures (flow_read _ _ (reading c.loop-at.site c.loop-at.next) (omega arith) (c.in_default.ensures _ (known _ _)) c.if-tag.false c.loop-at.invariant.reads _
      (flow_goes _ _ (reading c.loop-at.site c.loop-at.next) (omega arith) (c.in_default.ensures _ (known _ _)) (search rules) _ c.size-at-in_default-tag.ensures) (search rules) _ c.flow_at-flow.ensures);
}

pub returns-clause-site : goal.returns-clause-site
returns-clause-site c =
    rw c.at-2.ensures (refused_form _ _ _ (sym (read_out plans _ _ _ (omega arith)) ∙ c.loop-at.invariant.reads))
