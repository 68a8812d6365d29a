-- Right because the lists are filled where the file is read to a schedule.
use borrow.Author.Rules.{rules}
use mathlib.Core.Path.{sym, ◌∙◌}
use Rattle.host_lists.specs.Lists.{schedule_read_from}
use Rattle.host_answers.proofs.Laws.Told.{told_value}
use Rattle.host_answers.proofs.Laws.Calls.{by_yes, of_length_lem}
use Rattle.host_lists.proofs.read_schedule.Goals as goal

pub returns-in-Ok : goal.returns-in-Ok
unfolding schedule_read_from
returns-in-Ok c =
    rw (c.copy_from_slice.ensures.after, c.copy_from_slice-in-Ok.ensures.after, told_value c.in-Ok.links (search rules))
    (by_yes _ _ _ _ (sym c.in-Ok.ensures) ∙ of_length_lem _ _ _ _ c.if-periods-ne63.false ∙ of_length_lem _ _ _ _ c.if-offsets-ne63.false)
