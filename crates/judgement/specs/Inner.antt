-- What the judgement that fills in a site's schedule tells its callers. The promise of `judge` cites none of this.
use Rattle.std.specs.Prelude.{◌≡◌, ℕ, List}
use Rattle.rulings.specs.Outcome.{Ruling, given, settled}
use Rattle.site.specs.declared.Site.{Site}
use Rattle.site.specs.Sites.{with_schedule}
use Rattle.reservations.specs.Reservations.{loads_of}
use Rattle.judgement.specs.Judge.{judge_of}

-- A ruling on a site s, what becomes of it, which has the schedule that it is accepted with, and of a list for the loads of its links.
pub record SettledAs (s : Site) (r : Ruling) (t : Site) (before after : List ℕ) : Type 0 where
  pub judged : given r t ≡ judge_of s
  pub loads : after ≡ settled r (loads_of t) before
  pub rest : t ≡ with_schedule s t.offsets t.periods
