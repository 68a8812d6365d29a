use Rattle.std.proofs.Common.{rules, ◌≡◌, ◌*◌, ◌≤◌, length, arith, sum, sym, ◌∙◌}
use Rattle.slot_checks.proofs.Laws.Answers.{summed, few_summed}
use Rattle.slot_checks.proofs.sum.Goals as goal

pub returns : goal.returns
returns c =
    let e : c.sum.result ≡ sum c.args.cells.now = search rules in
    let few : sum c.args.cells.now ≤ length c.args.cells.now * 4294967295 = few_summed _ (λ k. omega (arith, c.type_inv.cells k)) in
    (e ∙ sym (summed c.args.cells.now), omega arith)
