-- What 17 says of a flow that is to come. The module named here holds a law for each answer of the code.
pub mod Answers
use mathlib.Core.Path.{◌≡◌}
use mathlib.Core.Logic.{◌↔◌}
use Rattle.site.specs.declared.Site.{Site}
use Rattle.site.specs.declared.Flow.{Flow}
use Rattle.reservations.specs.Words.{RoomAlong}
use Rattle.reservations.proofs.Laws.{room_when}
use Rattle.tree.proofs.Laws.Tree.{route_some}
use Rattle.flow_checks.specs.Flows.{route_for, unfit_link}

-- 17 finds nothing just when the width fits on every link of the route.
pub route_room : (s : Site) (f : Flow) → (unfit_link s f ≡ 0) ↔ RoomAlong s f.rate (route_for s f)
route_room s f = room_when s f.rate (route_for s f) (route_some s.parents f.entry)
