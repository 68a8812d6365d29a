-- Right because the schedule is written where the plan is read to a site, which passes check 14, and else the refusal of the reading is told.
use borrow.Author.Rules.{rules}
use mathlib.Core.Path.{◌≡◌, sym, ◌∙◌, ap}
use Prim.Native.Nat.{ℕ}
use native.Mathlib.Omega.{arith}
use Rattle.std.specs.Prelude.{Err}
use Rattle.rulings.specs.Outcome.{Outcome, accepted, outcome}
use Rattle.plan_reader.specs.Read.{read_of}
use Rattle.schedule_writer.specs.Write.{schedule_of}
use Rattle.site_check.proofs.Laws.Passing.{plain_writing}
use Rattle.host_answers.specs.Answers.{told, answer_of}
use Rattle.host_answers.proofs.Laws.{told_answer}
use Rattle.host_answers.proofs.Laws.Told.{encoded_room, schedule_few}
use Rattle.host_answers.proofs.Laws.Calls.{read_standing, by_yes, by_no, read_told}
use Rattle.host_calls.specs.Calls.{schedule_from}
use Rattle.host_calls.proofs.schedule.Goals as goal

pub returns-in-Ok : goal.returns-in-Ok
unfolding schedule_from schedule_of
returns-in-Ok c =
    let same : outcome c.map.result ≡ outcome c.encode_lists.result = search rules in
    let written = c.encode_lists.ensures in
    let taken : read_of c.args.plan.now ≡ accepted c.in-Ok.site = sym c.read_site.ensures ∙ ap outcome c.in-Ok.is in
    let sound = read_standing _ (λ i. omega (arith, c.type_inv.plan i)) _ taken in
    rw (ap told c.answer.ensures ∙ ap (λ (o : Outcome ℕ). told (answer_of o)) same ∙ told_answer _ (encoded_room _ _ _ (schedule_few _) _ _ written))
    (written ∙ plain_writing c.in-Ok.site _ _ sound ∙ by_yes _ _ _ _ taken)

pub returns-in-Err : goal.returns-in-Err
unfolding schedule_from
returns-in-Err c =
    let refused : outcome (Err c.in-Err.refused) ≡ read_of c.args.plan.now = ap outcome (sym c.in-Err.is) ∙ c.read_site.ensures in
    rw (read_told _ (λ i. omega (arith, c.type_inv.plan i)) _ _ _ refused c.answer-in-Err.ensures) (by_no _ _ _ _ _ (sym refused))
