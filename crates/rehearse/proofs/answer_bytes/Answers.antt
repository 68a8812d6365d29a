use borrow.Author.Rules.{rules}
use Prim.Native.Nat.{◌≤◌}
use mathlib.Core.Path.{refl}
use lib.ListN.{length}
use native.Mathlib.Omega.{arith}
use Rattle.rehearsal.proofs.Laws.Runs.{typed_none, typed_more, typed_fewer}
use Rattle.rehearse.proofs.answer_bytes.Goals as goal

pub loop-rest-init : goal.loop-rest-init
loop-rest-init c = record { goes = typed_none _ _ _ _; space_long = refl; counters_long = refl; out_long = refl }

pub loop-rest-smaller : goal.loop-rest-smaller
loop-rest-smaller c =
    let some : 1 ≤ length c.loop-rest.rest.now = search rules in
    typed_fewer _ _ _ _ _ _ _ _ c.loop-rest.invariant.goes _ _ _ _ _ _ some (omega (arith, c.loop-rest.invariant.out_long)) c.take_up-next.ensures

pub loop-rest-preserved : goal.loop-rest-preserved
loop-rest-preserved c = record {
  goes = typed_more _ _ _ _ _ _ _ _ c.loop-rest.invariant.goes _ _ _ _ _ _ c.loop-rest.invariant.space_long c.take_up-next.ensures;
  space_long = search rules;
  counters_long = search rules;
  out_long = search rules;
}
