-- Right because all lines are judged before a byte is stored, and the bytes stored are those of the commands and END.
use Rattle.std.proofs.lemmas.Result.{err_from_is_err_and}
use Rattle.typed_plan.proofs.Laws.Plans.{assembled_long, assembled_short, assembled_stored, assembled_told}
use Rattle.typed_plan.proofs.assemble.Goals as goal

pub returns-then-text-gt65535 : goal.returns-then-text-gt65535
returns-then-text-gt65535 c = assembled_long _ _ c.if-text-gt65535.true

pub returns-in_err-size : goal.returns-in_err-size
returns-in_err-size c =
    let p = err_from_is_err_and c.from_residual.result c.from_residual.ensures.1 in
    rw (p.1, p.2) (assembled_told _ _ c.if-text-gt65535.false _ c.in_err-size.ensures)

pub returns-then-out-size : goal.returns-then-out-size
returns-then-out-size c =
    assembled_short _ _ c.if-text-gt65535.false _ c.in_ok-size.ensures c.if-out-size.true

pub returns : goal.returns
returns c =
    assembled_stored _ _ c.if-text-gt65535.false _ c.in_ok-size.ensures c.if-out-size.false _ _ c.put_plan.ensures
