use Rattle.std.proofs.Common.{rules, refl, eqb, ◌∙◌}
use Rattle.std.proofs.lemmas.Bool.Decides.{nat_tests}
use Rattle.std.proofs.lemmas.List.{length_push}
use Rattle.std.proofs.lemmas.Iterator.Splits.{YieldsList-from_slice_split}
use Rattle.std.proofs.lemmas.Iterator.Consumers.{YieldsList-turn, YieldsList-end, YieldsList-at}
use Rattle.typed_plan.proofs.Laws.Plans.{putting_more, putting_end}
use Rattle.typed_plan.proofs.plans.put_commands.Goals as goal

pub loop-line-preserved : goal.loop-line-preserved
loop-line-preserved c =
    let h = YieldsList-turn (YieldsList-at c.into_iter-line-iterator.ensures.into_iter_gives
    (YieldsList-from_slice_split _ (λ b. eqb b 10) _ c.split-line-items.ensures.rest c.split-line-items.ensures.done c.split-line-items.ensures.closure
    (λ x r q k. (refl, search (rules, nat_tests)))))
    c.loop-line.yielded _ c.loop-line.yielded_by _ _ c.in-Some.line c.in-Some.is c.next.ensures.steps in
    rw (length_push c.loop-line.yielded c.in-Some.line)
    (record { same_space = c.put_line.ensures.0 ∙ c.loop-line.invariant.same_space; put = putting_more _ _ _ _ c.loop-line.invariant.put _ h _ c.put_line.ensures.1 })

pub returns : goal.returns
returns c =
    let h = YieldsList-end (YieldsList-at c.into_iter-line-iterator.ensures.into_iter_gives
    (YieldsList-from_slice_split _ (λ b. eqb b 10) _ c.split-line-items.ensures.rest c.split-line-items.ensures.done c.split-line-items.ensures.closure
    (λ x r q k. (refl, search (rules, nat_tests)))))
    c.loop-line.yielded _ c.loop-line.yielded_by _ _ c.in-None.is c.next.ensures.steps in
    (c.put.ensures.0 ∙ c.loop-line.invariant.same_space, putting_end _ _ _ _ c.loop-line.invariant.put h.1 _ _ c.put.ensures.1 refl)
