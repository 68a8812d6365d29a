-- Right because 1 and 14 are judged first, and then all counters are cleared.
use mathlib.Core.Path.{◌≡◌, sym, ◌∙◌}
use lib.ListN.{length}
use native.Mathlib.Omega.{arith}
use Rattle.host_answers.proofs.Laws.Calls.{read_standing, on_yes, of_length_lem}
use Rattle.host_calls.specs.Calls.{start_from}
use Rattle.host_calls.proofs.Laws.Ends.{stands_started}
use Rattle.host_calls.proofs.start.Goals as goal

pub returns : goal.returns
unfolding start_from
returns c =
    let counted : length c.args.counters.now ≡ 576 = omega arith in
    let sound = read_standing _ (λ i. omega (arith, c.type_inv.plan i)) _ (sym c.in-Ok.ensures) in
    stands_started _ sound _ counted _ (omega arith) _ c.clear.ensures
    ∙ on_yes _ _ _ _ c.in-Ok.ensures ∙ of_length_lem _ _ _ _ counted
