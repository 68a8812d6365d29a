-- Right because 14 is judged first, and the lookup is made on the site that the plan is read to.
use borrow.Author.Rules.{rules}
use Prim.Native.Nat.{ℕ}
use mathlib.Core.Path.{◌≡◌, sym, ◌∙◌, ap}
use native.Mathlib.Omega.{arith}
use Rattle.rulings.specs.Outcome.{Outcome, accepted, outcome}
use Rattle.plan_reader.specs.Read.{read_of}
use Rattle.sender.proofs.Laws.{sender_looks}
use Rattle.host_answers.specs.Answers.{told, answer_of}
use Rattle.host_answers.proofs.Laws.{told_answer}
use Rattle.host_answers.proofs.Laws.Calls.{read_standing, on_yes}
use Rattle.host_calls.specs.Calls.{sender_from}
use Rattle.host_calls.proofs.Laws.Ends.{lookup_room}
use Rattle.host_calls.proofs.sender.Goals as goal

pub returns : goal.returns
unfolding sender_from
returns c =
    let taken : accepted c.in-Ok.site ≡ read_of c.args.plan.now = ap outcome (sym c.in-Ok.is) ∙ c.read_site-read.ensures in
    let same : outcome c.map.result ≡ outcome c.look_up.result = search rules in
    let found = c.look_up.ensures in
    let sound = read_standing _ (λ i. omega (arith, c.type_inv.plan i)) _ (sym taken) in
    ap told c.answer.ensures ∙ ap (λ (o : Outcome ℕ). told (answer_of o)) same ∙ told_answer _ (rw found (lookup_room c.in-Ok.site _ _)) ∙ found
    ∙ sym (sender_looks c.in-Ok.site _ _ sound) ∙ on_yes _ _ _ _ taken
