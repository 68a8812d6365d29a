-- Right because the first word names what is asked for, and the words behind it are its operands.
use mathlib.Core.Path.{◌∙◌, ap}
use Rattle.call_text.specs.Lines.{alone}
use Rattle.call_text.proofs.Laws.Requests.{asked_remark, asked_nothing, asked_slot, asked_other}
use Rattle.call_text.proofs.read_line.Goals as goal

pub returns-then-remark : goal.returns-then-remark
returns-then-remark c = c.without_arrivals.ensures ∙ asked_remark _ c.if-remark.ensures

pub returns-in_default : goal.returns-in_default
returns-in_default c = c.without_arrivals-in_default.ensures ∙ asked_nothing _ c.if-remark.ensures c.in_default.ensures

pub returns-then-same : goal.returns-then-same
returns-then-same c =
    c.slot_line.ensures ∙ asked_slot _ c.if-remark.ensures _ _ c.in-Some.ensures c.if-same.ensures

pub returns : goal.returns
returns c =
    c.without_arrivals-2.ensures
    ∙ ap alone c.read_request.ensures
    ∙ asked_other _ c.if-remark.ensures _ _ c.in-Some.ensures c.if-same.ensures
