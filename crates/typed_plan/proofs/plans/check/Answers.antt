use Rattle.std.proofs.Common.{rules, refl, ◌∙◌, eqb}
use Rattle.std.proofs.lemmas.Bool.Decides.{nat_tests}
use Rattle.std.proofs.lemmas.List.{length_push}
use Rattle.std.proofs.lemmas.List.FromFn.{length-enumerate_from}
use Rattle.std.proofs.lemmas.Iterator.Splits.{YieldsList-from_slice_split}
use Rattle.std.proofs.lemmas.Iterator.Consumers.{YieldsList-turn, YieldsList-end, YieldsList-at, YieldsList-from_enumerate}
use Rattle.typed_plan.proofs.Laws.Plans.{checking_start, checking_wrong, checking_more, checking_end, numbered_line, read_right}
use Rattle.typed_plan.proofs.plans.check.Goals as goal

pub loop-i-init : goal.loop-i-init
loop-i-init c = checking_start _

pub loop-i-preserved : goal.loop-i-preserved
loop-i-preserved c =
    let h = YieldsList-turn (YieldsList-at c.into_iter-i-iterator.ensures.into_iter_gives
    (YieldsList-from_enumerate (YieldsList-at c.enumerate-i-items.ensures.source
    (YieldsList-from_slice_split _ (λ b. eqb b 10) _ c.split.ensures.rest c.split.ensures.done c.split.ensures.closure
    (λ x r q k. (refl, search (rules, nat_tests))))) c.enumerate-i-items.ensures.count))
    c.loop-i.yielded _ c.loop-i.yielded_by _ _ (c.in-Some.i, c.in-Some.line) c.in-Some.is c.next.ensures.steps in
    let g = numbered_line c.args.text.now _ _ _ h in
    rw (length_push c.loop-i.yielded (c.in-Some.i, c.in-Some.line))
    (checking_more _ _ _ c.loop-i.invariant _ (g.1, g.2) _ c.in-Ok.ensures (read_right _) _ c.command_size-size.ensures.0)

pub returns-in-Err : goal.returns-in-Err
returns-in-Err c =
    let h = YieldsList-turn (YieldsList-at c.into_iter-i-iterator.ensures.into_iter_gives
    (YieldsList-from_enumerate (YieldsList-at c.enumerate-i-items.ensures.source
    (YieldsList-from_slice_split _ (λ b. eqb b 10) _ c.split.ensures.rest c.split.ensures.done c.split.ensures.closure
    (λ x r q k. (refl, search (rules, nat_tests))))) c.enumerate-i-items.ensures.count))
    c.loop-i.yielded _ c.loop-i.yielded_by _ _ (c.in-Some.i, c.in-Some.line) c.in-Some.is c.next.ensures.steps in
    let g = numbered_line c.args.text.now _ _ _ h in
    rw g.0 (checking_wrong _ _ _ c.loop-i.invariant _ (g.1, g.2) _ _ c.in-Err.ensures _)

pub returns : goal.returns
returns c =
    let h = YieldsList-end (YieldsList-at c.into_iter-i-iterator.ensures.into_iter_gives
    (YieldsList-from_enumerate (YieldsList-at c.enumerate-i-items.ensures.source
    (YieldsList-from_slice_split _ (λ b. eqb b 10) _ c.split.ensures.rest c.split.ensures.done c.split.ensures.closure
    (λ x r q k. (refl, search (rules, nat_tests))))) c.enumerate-i-items.ensures.count))
    c.loop-i.yielded _ c.loop-i.yielded_by _ _ c.in-None.is c.next.ensures.steps in
    checking_end _ _ _ c.loop-i.invariant (h.1 ∙ length-enumerate_from 0 _)
