-- Right because the slot rule answers and fills, and its answer is told.
use borrow.Author.Rules.{rules}
use Prim.Native.Nat.{ℕ}
use mathlib.Core.Path.{◌≡◌, ◌∙◌, ap}
use native.Mathlib.Omega.{arith}
use Rattle.rulings.specs.Outcome.{Outcome, outcome}
use Rattle.host_answers.specs.Answers.{told, answer_of}
use Rattle.host_answers.proofs.Laws.{told_answer}
use Rattle.host_lists.proofs.Laws.Ends.{assigned_room}
use Rattle.host_lists.proofs.assign.Goals as goal

pub returns : goal.returns
returns c =
    let room = assigned_room _ _ _ _ (omega (arith, c.type_inv.gaps 0)) _ _ _ c.assign.ensures in
    let same : outcome c.map.result ≡ outcome c.assign.result = search rules in
    rw (ap told c.answer.ensures ∙ ap (λ (o : Outcome ℕ). told (answer_of o)) same ∙ told_answer _ room) c.assign.ensures
