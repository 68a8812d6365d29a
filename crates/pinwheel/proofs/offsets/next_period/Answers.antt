use Rattle.std.proofs.Common.{arith}
use Rattle.std.proofs.lemmas.Grind.{common_steps}
use Rattle.std.specs.Prelude.{filter}
use lib.Dec.{ltb}
use Rattle.bases.proofs.Laws.{smallest_is}
use Rattle.pinwheel.proofs.Laws.Turns.{next_smallest, next_is}
use Rattle.pinwheel.proofs.offsets.next_period.Goals as goal

pub returns : goal.returns
returns c =
    let run = c.min.ensures.runs in
    let found = smallest_is (filter (ltb c.args.p) c.args.periods.now) run.0.len run.0.at (grind (arith, common_steps)) (λ k l. grind (arith, common_steps)) _ run.3 in
    (_, next_smallest c.args.p c.args.periods.now, next_is c.args.p c.args.periods.now _ found)
