-- Right because 1 and 14 are judged first, and the change is made on the site that the plan is read to, whose plan the lent bytes are.
use mathlib.Core.Path.{◌≡◌, sym, ◌∙◌, ap}
use mathlib.Core.Bool.{true}
use native.Mathlib.Omega.{arith}
use Rattle.rulings.specs.Outcome.{accepted, outcome}
use Rattle.plan_reader.specs.Read.{read_of}
use Rattle.site_check.specs.Check.{passes_of}
use Rattle.plan_writer.specs.Write.{plan_bytes}
use Rattle.host_answers.proofs.Laws.Told.{told_no, number_tellable}
use Rattle.host_answers.proofs.Laws.Calls.{on_yes, of_length_lem}
use Rattle.host_changes.specs.Changes.{release_from}
use Rattle.host_changes.proofs.Laws.Changes.{read_to, releasable, release_no}
use Rattle.host_changes.proofs.release.Goals as goal

pub dropped-requires : goal.dropped-requires
dropped-requires c =
    let taken : accepted c.in-Ok.site ≡ read_of c.args.plan.now = ap outcome (sym c.in-Ok.is) ∙ c.read_site-read.ensures in
    let known : (passes_of c.in-Ok.site ≡ true) × (plan_bytes c.in-Ok.site ≡ c.args.plan.now) = read_to _ (λ i. omega (arith, c.type_inv.plan i)) _ taken in
    (releasable _ known.0 _ c.if-counters-ne576.false _ (c.in-Ok-judge_number.ensures c.in-Ok.site), known.1)

pub returns-in-Ok-judge_number : goal.returns-in-Ok-judge_number
unfolding release_from
returns-in-Ok-judge_number c =
    let taken : accepted c.in-Ok.site ≡ read_of c.args.plan.now = ap outcome (sym c.in-Ok.is) ∙ c.read_site-read.ensures in
    c.dropped.ensures ∙ on_yes _ _ _ _ taken ∙ of_length_lem _ _ _ _ c.if-counters-ne576.false

pub returns-in-Err : goal.returns-in-Err
unfolding release_from
returns-in-Err c =
    let taken : accepted c.in-Ok.site ≡ read_of c.args.plan.now = ap outcome (sym c.in-Ok.is) ∙ c.read_site-read.ensures in
    let known : (passes_of c.in-Ok.site ≡ true) × (plan_bytes c.in-Ok.site ≡ c.args.plan.now) = read_to _ (λ i. omega (arith, c.type_inv.plan i)) _ taken in
    let room = (number_tellable c.in-Ok.site c.args.number (omega arith)).near _ _ (sym (c.in-Err.ensures c.in-Ok.site)) in
    rw (told_no _ _ _ c.answer.ensures room.0 room.1)
    (release_no _ known.0 _ c.if-counters-ne576.false _ _ _ _ (c.in-Err.ensures c.in-Ok.site) ∙ on_yes _ _ _ _ taken ∙ of_length_lem _ _ _ _ c.if-counters-ne576.false)
