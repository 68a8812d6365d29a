-- Right because 1 and 14 are judged first, and the change is made on the site that the plan is read to, whose plan the lent bytes are.
use borrow.Author.Rules.{rules}
use Prim.Native.Nat.{◌≤◌}
use mathlib.Core.Path.{◌≡◌, sym, ◌∙◌, ap}
use mathlib.Core.Bool.{true}
use native.Mathlib.Omega.{arith}
use Rattle.rulings.specs.Outcome.{accepted, outcome}
use Rattle.plan_reader.specs.Read.{read_of}
use Rattle.site_check.specs.Check.{passes_of}
use Rattle.plan_writer.specs.Write.{plan_bytes}
use Rattle.host_answers.proofs.Laws.Calls.{on_yes, of_length_lem}
use Rattle.host_changes.specs.Changes.{admit_from}
use Rattle.host_changes.proofs.Laws.Changes.{read_to, flow_told, judged_by, admissible, admit_no}
use Rattle.host_changes.proofs.admit.Goals as goal

pub inserted-requires : goal.inserted-requires
inserted-requires c =
    let taken : accepted c.in-Ok.site ≡ read_of c.args.plan.now = ap outcome (sym c.in-Ok.is) ∙ c.read_with-read.ensures.site in
    let summed = rw c.in-Ok.is at c.read_with-read.ensures.loads in
    let known : (passes_of c.in-Ok.site ≡ true) × (plan_bytes c.in-Ok.site ≡ c.args.plan.now) = read_to _ (λ i. omega (arith, c.type_inv.plan i)) _ taken in
    let rule = judged_by _ known.0 _ summed _ _ c.in-Ok-judge_flow.ensures in
    (admissible _ known.0 _ c.if-counters-ne576.false _ rule, known.1)

pub returns-in-Ok-judge_flow : goal.returns-in-Ok-judge_flow
unfolding admit_from
returns-in-Ok-judge_flow c =
    let taken : accepted c.in-Ok.site ≡ read_of c.args.plan.now = ap outcome (sym c.in-Ok.is) ∙ c.read_with-read.ensures.site in
    c.inserted.ensures ∙ on_yes _ _ _ _ taken ∙ of_length_lem _ _ _ _ c.if-counters-ne576.false

pub returns-in-Err : goal.returns-in-Err
unfolding admit_from
returns-in-Err c =
    let taken : accepted c.in-Ok.site ≡ read_of c.args.plan.now = ap outcome (sym c.in-Ok.is) ∙ c.read_with-read.ensures.site in
    let summed = rw c.in-Ok.is at c.read_with-read.ensures.loads in
    let known : (passes_of c.in-Ok.site ≡ true) × (plan_bytes c.in-Ok.site ≡ c.args.plan.now) = read_to _ (λ i. omega (arith, c.type_inv.plan i)) _ taken in
    let operands : (c.args.number ≤ 255) × (c.args.entry ≤ 255) = (search rules, search rules) in
    let no = judged_by _ known.0 _ summed _ _ c.in-Err.ensures in
    rw (flow_told _ _ _ _ _ no c.answer.ensures operands.0 operands.1)
    (admit_no _ known.0 _ c.if-counters-ne576.false _ _ _ _ no ∙ on_yes _ _ _ _ taken ∙ of_length_lem _ _ _ _ c.if-counters-ne576.false)
