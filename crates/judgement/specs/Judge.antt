-- 01, the checks after END: 11 for every parent, then 12, then 13.
use Rattle.std.specs.Prelude.{◌+◌, cond, ltb, leb}
use Rattle.rulings.specs.Outcome.{Outcome, Ruling, accepted, refused, or_else}
use Rattle.site.specs.declared.Site.{Site}
use Rattle.site.specs.Sites.{empty_site, used}
use Rattle.schedule.specs.Schedule.{first_crowded, scheduled}
use Rattle.reservations.specs.Reservations.{first_over, first_late}

-- 01: a refused reading comes with the empty site.
unfoldable pub with_site : Outcome Site → Ruling × Site
with_site o = or_else empty_site o

-- The judgement of a site that has its schedule: 12 at the lowest such link, 13 at the lowest such flow.
unfoldable pub reserved : Site → Outcome Site
reserved s =
    cond (ltb (first_over s) (used s.links)) (refused 12 (first_over s + 1))
    (cond (ltb (first_late s) 64) (refused 13 (first_late s))
    (accepted s))

-- The judgement of nodes and flows whose form is right; what comes in as their schedule plays no part. Where the form is wrong and the slot rule
-- refuses a parent's gaps with 5, that parent counts as crowded: a reading and check 14 judge the form before.
unfoldable pub judge_of : Site → Outcome Site
judge_of s = cond (leb (first_crowded s) (used s.links)) (refused 11 (first_crowded s)) (reserved (scheduled s))
