-- Right because 1 and 14 are judged first, and the site that the plan is read to need not be judged again.
use borrow.Author.Rules.{rules}
use Prim.Native.Nat.{ℕ}
use mathlib.Core.Path.{◌≡◌, sym, ◌∙◌, ap}
use lib.ListN.{length}
use native.Mathlib.Omega.{arith}
use Rattle.rulings.specs.Outcome.{Outcome, accepted, outcome}
use Rattle.plan_reader.specs.Read.{read_of}
use Rattle.simulation.proofs.Laws.{slot_advances}
use Rattle.host_answers.specs.Answers.{told, answer_of, valued}
use Rattle.host_answers.proofs.Laws.{told_valued}
use Rattle.host_answers.proofs.Laws.Calls.{read_standing, on_yes, of_length_lem}
use Rattle.host_calls.specs.Calls.{answered, slot_from}
use Rattle.host_calls.proofs.Laws.Ends.{advanced_tellable}
use Rattle.host_calls.proofs.slot.Goals as goal

pub returns : goal.returns
unfolding slot_from answered valued
returns c =
    let taken : accepted c.in-Ok.site ≡ read_of c.args.plan.now = ap outcome (sym c.in-Ok.is) ∙ c.read_site-read.ensures in
    let counted : length c.args.counters.now ≡ 576 = omega arith in
    let whole : length c.args.arrivals.now ≡ 64 = omega arith in
    let same : outcome c.map.result ≡ valued (outcome c.advance.result) 0 = search rules in
    let moved = c.advance.ensures in
    let sound = read_standing _ (λ i. omega (arith, c.type_inv.plan i)) _ (sym taken) in
    rw (ap told c.answer.ensures ∙ ap (λ (o : Outcome ℕ). told (answer_of o)) same ∙ told_valued _ 0 (advanced_tellable _ c.in-Ok.site _ _ _ _ _ moved) (omega arith))
    (ap answered (moved ∙ sym (slot_advances _ c.in-Ok.site _ _ _ sound))
    ∙ on_yes _ _ _ _ taken ∙ of_length_lem _ _ _ _ whole ∙ of_length_lem _ _ _ _ counted)
