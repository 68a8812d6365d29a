-- Right because the writer judges the lists as those of a schedule, behind the tests of their lengths.
use borrow.Author.Rules.{rules}
use Prim.Native.Nat.{ℕ}
use mathlib.Core.Path.{◌≡◌, ◌∙◌, ap}
use Rattle.rulings.specs.Outcome.{Outcome, outcome}
use Rattle.schedule_check.proofs.Laws.{passes_listed}
use Rattle.host_lists.specs.Lists.{schedule_written_from}
use Rattle.host_answers.specs.Answers.{told, answer_of}
use Rattle.host_answers.proofs.Laws.{told_answer}
use Rattle.host_answers.proofs.Laws.Told.{handed_room, schedule_few}
use Rattle.host_answers.proofs.Laws.Calls.{of_length_lem}
use Rattle.host_lists.proofs.write_schedule.Goals as goal

pub returns : goal.returns
unfolding schedule_written_from
returns c =
    let room = handed_room _ _ _ (λ e. schedule_few _ ((passes_listed _).0 e).few) _ _ c.write_lists.ensures in
    let same : outcome c.map.result ≡ outcome c.write_lists.result = search rules in
    rw (ap told c.answer.ensures ∙ ap (λ (o : Outcome ℕ). told (answer_of o)) same ∙ told_answer _ room)
    (c.write_lists.ensures ∙ of_length_lem _ _ _ _ c.if-periods-ne63.false ∙ of_length_lem _ _ _ _ c.if-offsets-ne63.false)
