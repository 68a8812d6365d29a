-- Right because each number is read behind the one before, and the third is there just where the change is complete.
use mathlib.Core.Path.{◌∙◌, ap}
use mathlib.Core.Bool.{not}
use Rattle.testlib_text.proofs.Laws.Lines.{change_behind, change_whole, change_broken}
use Rattle.testlib_text.proofs.Numbers.next_change.Goals as goal

pub returns-then-is_none-clause-behind : goal.returns-then-is_none-clause-behind
returns-then-is_none-clause-behind c =
    c.next-value.ensures.behind ∙ change_behind _ _ _ _ c.next-field.ensures.line c.next-field.ensures.behind _ _ c.next-index.ensures.line c.next-index.ensures.behind

pub returns-then-is_none-clause-value : goal.returns-then-is_none-clause-value
returns-then-is_none-clause-value c =
    change_broken _ _ _ _ c.next-field.ensures.line c.next-field.ensures.behind _ _ c.next-index.ensures.line c.next-index.ensures.behind _ _ c.next-field.ensures.value c.next-index.ensures.value _ c.next-value.ensures.value _ _ _
    c.unwrap_or.ensures c.unwrap_or-2.ensures c.unwrap_or-3.ensures (c.is_none.ensures ∙ ap not c.if-is_none.true)

pub returns-clause-behind : goal.returns-clause-behind
returns-clause-behind c =
    c.next-value.ensures.behind ∙ change_behind _ _ _ _ c.next-field.ensures.line c.next-field.ensures.behind _ _ c.next-index.ensures.line c.next-index.ensures.behind

pub returns-clause-value : goal.returns-clause-value
returns-clause-value c =
    change_whole _ _ _ _ c.next-field.ensures.line c.next-field.ensures.behind _ _ c.next-index.ensures.line c.next-index.ensures.behind _ _ c.next-field.ensures.value c.next-index.ensures.value _ c.next-value.ensures.value _ _ _
    c.unwrap_or.ensures c.unwrap_or-2.ensures c.unwrap_or-3.ensures (c.is_none.ensures ∙ ap not c.if-is_none.false)
