-- 01: the checks of a flow that is to come and of a number that is to go, and their order.
use Rattle.std.specs.Prelude.{ℕ, not, cond, List, eqb, ltb}
use Rattle.rulings.specs.Outcome.{Ruling, accepted, refused, checked}
use Rattle.site.specs.declared.Site.{Site}
use Rattle.site.specs.declared.Flow.{Flow}
use Rattle.site.specs.Sites.{live}
use Rattle.tree.specs.Tree.{route}
use Rattle.reservations.specs.Reservations.{periods_judged, first_unfit, along}
use Rattle.limits.specs.Limits.{flow_limits}

-- The route that the flow would have.
abbrev pub route_for : Site → Flow → List ℕ
route_for s f = route s.parents f.entry

-- 01, 17: the first link going up on which the flow's width does not fit, 0 where there is none.
abbrev pub unfit_link : Site → Flow → ℕ
unfit_link s f = first_unfit s f.rate (route_for s f)

-- 01, the order of the checks of a flow that is to come: 5, 6, 15, 17, 18. 5 and 6 are those of a FLOW; a call has no last number that its own must be above.
unfoldable pub flow_ruling : Site → Flow → Ruling
flow_ruling s f =
    checked (flow_limits s.links 0 f)
    (cond (live s f.number) (refused 15 f.number)
    (cond (not (eqb (unfit_link s f) 0)) (refused 17 (unfit_link s f))
    (cond (ltb f.deadline (along (periods_judged s) (route_for s f))) (refused 18 f.number)
    (accepted tt))))

-- 01, the order of the checks of a number that is to go: 5, 16.
unfoldable pub number_ruling : Site → ℕ → Ruling
number_ruling s n = cond (ltb 63 n) (refused 5 0) (cond (not (live s n)) (refused 16 n) (accepted tt))
