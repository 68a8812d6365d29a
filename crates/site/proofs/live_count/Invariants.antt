-- Right because the live flows below the index are counted.
use Rattle.site.specs.declared.Site.{Site}
use Rattle.site.specs.Sites.{with_states}
use Rattle.site.proofs.Laws.Flows.{Counted}
use Rattle.site.proofs.live_count.Given as goal

abbrev pub invariant-loop-state : goal.invariant-loop-state
invariant-loop-state l = (s : Site) → Counted (with_states s l.states) l.state-index l.count
