-- Right because the first word of the line names the command, and the others are its operands.
use mathlib.Core.Path.{◌∙◌}
use Rattle.typed_line.proofs.Laws.Operands.{typed_mapped, unnamed, named_node, named_flow, named_other}
use Rattle.typed_line.proofs.read_command.Goals as goal

pub returns-in_default : goal.returns-in_default
returns-in_default c = unnamed _ c.in_default.ensures

pub returns-then-same : goal.returns-then-same
returns-then-same c =
    typed_mapped _ _ c.map.ensures.cases ∙ c.node_line.ensures ∙ named_node _ _ _ c.in-Some.ensures c.if-same.ensures

pub returns-then-same-2 : goal.returns-then-same-2
returns-then-same-2 c =
    typed_mapped _ _ c.map-then-same-2.ensures.cases ∙ c.flow_line.ensures
    ∙ named_flow _ _ _ c.in-Some.ensures c.if-same.ensures c.if-same-2.ensures

pub returns : goal.returns
returns c = named_other _ _ _ c.in-Some.ensures c.if-same.ensures c.if-same-2.ensures
