use Prim.Native.Nat.{◌-◌, ◌<◌}
use mathlib.Core.Path.{◌∙◌}
use native.Mathlib.Omega.{arith}
use Rattle.std.proofs.lemmas.List.{get_or-set_other}
use Rattle.reservations.proofs.Laws.Reservations.{along_up, carried_up}
use Rattle.link_loads.proofs.add_widths.Goals as goal

pub loop-node-preserved : goal.loop-node-preserved
loop-node-preserved c =
    let here = c.loop-node.invariant in
    let higher : c.parent_of-parent.result < c.loop-node.node = omega arith in
    record {
      widths = cc (carried_up c.args.site.now.periods c.args.site.now.parents c.loop-node.loads c.args.rate _ _ c.parent_of-parent.ensures higher);
      ahead = λ i l. get_or-set_other c.loop-node.loads (c.loop-node.node - 1) i _ 0 (λ e. omega arith) ∙ here.ahead i (omega arith);
      periods = omega (arith, along_up c.args.site.now.periods c.args.site.now.parents _ _ c.parent_of-parent.ensures higher);
      room = omega arith;
    }
