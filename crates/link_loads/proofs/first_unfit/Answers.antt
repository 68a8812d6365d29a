use Prim.Native.Nat.{◌<◌}
use mathlib.Core.Path.{◌≡◌}
use native.Mathlib.Omega.{arith}
use Rattle.std.proofs.lemmas.Bool.Decides.{nat_tests}
use Rattle.lists.proofs.Laws.Search.{some_when}
use Rattle.tree.specs.Tree.{route}
use Rattle.reservations.specs.Inner.{first_full}
use Rattle.reservations.proofs.Laws.Reservations.{full_up}
use Rattle.link_loads.proofs.first_unfit.Goals as goal

pub returns-then-value_of-load : goal.returns-then-value_of-load
returns-then-value_of-load c =
    let higher : c.parent_of-parent.result < c.loop-link.link = omega arith in
    let step = full_up c.args.site.now.capacities c.args.loads.now c.args.site.now.periods c.args.site.now.parents c.args.rate _ _ c.parent_of-parent.ensures higher in
    let full : c.loop-link.link ≡ first_full c.args.site.now.capacities c.args.loads.now c.args.site.now.periods c.args.rate (route c.args.site.now.parents c.args.entry) = grind (arith, nat_tests) in
    rw (← full) (some_when _ (omega arith))

pub loop-link-preserved : goal.loop-link-preserved
loop-link-preserved c =
    let higher : c.parent_of-parent.result < c.loop-link.link = omega arith in
    let step = full_up c.args.site.now.capacities c.args.loads.now c.args.site.now.periods c.args.site.now.parents c.args.rate _ _ c.parent_of-parent.ensures higher in
    grind (arith, nat_tests)
