use Rattle.testlib_text.proofs.Laws.Lines.{next_none, next_within, next_some}
use Rattle.testlib_text.proofs.Numbers.next.Goals as goal

pub returns-in_default-clause-behind : goal.returns-in_default-clause-behind
returns-in_default-clause-behind c = (next_none _ _ c.in_default.ensures).0

pub returns-in_default-clause-value : goal.returns-in_default-clause-value
returns-in_default-clause-value c = (next_none _ _ c.in_default.ensures).1

pub slice_bounds-value_of-count : goal.slice_bounds-value_of-count
slice_bounds-value_of-count c = (next_within _ _ _ _ c.in-Some.ensures (rw c.scan-2.ensures at c.unwrap_or-end.ensures)).0

pub slice_bounds-value_of-start : goal.slice_bounds-value_of-start
slice_bounds-value_of-start c = (next_within _ _ _ _ c.in-Some.ensures (rw c.scan-2.ensures at c.unwrap_or-end.ensures)).0

pub slice_bounds-value_of-end : goal.slice_bounds-value_of-end
slice_bounds-value_of-end c = (next_within _ _ _ _ c.in-Some.ensures (rw c.scan-2.ensures at c.unwrap_or-end.ensures)).1

pub returns-clause-behind : goal.returns-clause-behind
returns-clause-behind c =
    (next_some _ _ _ _ c.in-Some.ensures (rw c.scan-2.ensures at c.unwrap_or-end.ensures) _ c.value_of.ensures).0

pub returns-clause-value : goal.returns-clause-value
returns-clause-value c =
    (next_some _ _ _ _ c.in-Some.ensures (rw c.scan-2.ensures at c.unwrap_or-end.ensures) _ c.value_of.ensures).1
