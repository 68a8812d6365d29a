-- 01, admission and release: what each call answers, and the site and the counters that it leaves, for every input.
use Rattle.std.specs.Prelude.{ℕ, List}
use Rattle.rulings.specs.Outcome.{Ruling, checked, settled}
use Rattle.site.specs.declared.Site.{Site}
use Rattle.site.specs.declared.Flow.{Flow}
use Rattle.site.specs.Sites.{with_flow, without_flow}
use Rattle.flow_checks.specs.Flows.{flow_ruling, number_ruling}
use Rattle.site_check.specs.Check.{call_fault}
use Rattle.counters.specs.Blocks.{with_cells, zeros}

-- 01: a refused change gives the old site and leaves the counters as they were, whatever refused it.
unfoldable pub change : Ruling → Site → Site → List ℕ → List ℕ → Ruling × Site × List ℕ
change r next s new counters = (r, settled r next s, settled r new counters)

-- 01, the order of an admission's checks: 1, 14, then those of the flow.
unfoldable pub admit_ruling : Site → List ℕ → Flow → Ruling
admit_ruling s counters f = checked (call_fault s counters) (flow_ruling s f)

-- 01: admission makes the flow live and sets the nine cells that belong to it to 0.
unfoldable pub admit_of : Site → List ℕ → Flow → Ruling × Site × List ℕ
admit_of s counters f = change (admit_ruling s counters f) (with_flow s f) s (with_cells f.number (zeros 9) counters) counters

-- 01, the order of a release's checks: 1, 14, then those of the number.
unfoldable pub release_ruling : Site → List ℕ → ℕ → Ruling
release_ruling s counters n = checked (call_fault s counters) (number_ruling s n)

-- 01: release takes the flow out and sets its nine cells to 0.
unfoldable pub release_of : Site → List ℕ → ℕ → Ruling × Site × List ℕ
release_of s counters n = change (release_ruling s counters n) (without_flow s n) s (with_cells n (zeros 9) counters) counters
