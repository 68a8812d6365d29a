-- What the checks on lent lists tell their callers. The promises of admission and release cite none of this.
use Rattle.std.specs.Prelude.{ℕ, not, cond, List, eqb, ltb}
use Rattle.rulings.specs.Outcome.{Ruling, accepted, refused, checked}
use Rattle.site.specs.declared.Site.{Site}
use Rattle.site.specs.declared.Flow.{Flow}
use Rattle.site.specs.Sites.{live}
use Rattle.reservations.specs.Reservations.{periods_judged, along}
use Rattle.reservations.specs.Inner.{first_full}
use Rattle.limits.specs.Limits.{flow_limits}
use Rattle.flow_checks.specs.Flows.{route_for}

-- `flow_ruling` where the first link without room, or 0, is told. With the site's own it is that, as they are defined.
unfoldable pub flow_ruling_with : ℕ → Site → Flow → Ruling
flow_ruling_with link s f =
    checked (flow_limits s.links 0 f)
    (cond (live s f.number) (refused 15 f.number)
    (cond (not (eqb link 0)) (refused 17 link)
    (cond (ltb f.deadline (along (periods_judged s) (route_for s f))) (refused 18 f.number)
    (accepted tt))))

-- `flow_ruling` by a list of what the links carry. With the loads of the site it is that: the law `ruling_by_loads`.
abbrev pub flow_ruling_by : List ℕ → Site → Flow → Ruling
flow_ruling_by loads s f = flow_ruling_with (first_full s.capacities loads (periods_judged s) f.rate (route_for s f)) s f
