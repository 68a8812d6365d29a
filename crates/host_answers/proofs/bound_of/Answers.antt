-- Right because a bound is a number of 32 bits, the checks of the number come before it, and their places are below 2^56.
use mathlib.Core.Path.{sym, ◌∙◌, ap}
use native.Mathlib.Omega.{arith}
use Rattle.rulings.specs.Outcome.{accepted}
use Rattle.host_answers.specs.Answers.{valued}
use Rattle.host_answers.proofs.Laws.Told.{told_value, told_no, number_tellable}
use Rattle.host_answers.proofs.bound_of.Goals as goal

pub returns-in-Ok : goal.returns-in-Ok
unfolding valued
returns-in-Ok c =
    rw (← (c.in-Ok.ensures c.args.site.now)) (told_value _ (omega (arith, c.from.ensures)) ∙ ap accepted (c.from.ensures ∙ c.delay_bound.ensures))

pub returns-in-Err : goal.returns-in-Err
unfolding valued
returns-in-Err c =
    let room = (number_tellable c.args.site.now c.args.number (omega arith)).near _ _ (sym (c.in-Err.ensures c.args.site.now)) in
    rw (← (c.in-Err.ensures c.args.site.now)) (told_no _ _ _ c.answer.ensures room.0 room.1)
