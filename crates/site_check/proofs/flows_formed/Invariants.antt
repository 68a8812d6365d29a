-- Right because no flow of a number before n is ill, so that the first ill one from n on is the first of all.
use Prim.Native.Nat.{ℕ}
use mathlib.Core.Path.{◌≡◌}
use mathlib.Core.Bool.{Bool}
use lib.ListN.{get_or}
use Rattle.lists.specs.Search.{first_in}
use Rattle.site.specs.declared.Site.{Site}
use Rattle.site_check.specs.Check.{flow_of, ill_flow, first_ill_flow}
use Rattle.site_check.proofs.flows_formed.Given as goal

abbrev pub ill : Site → ℕ → Bool
ill site n = ill_flow site.links (get_or site.states n 0) (flow_of site n)

abbrev pub invariant-loop-n : goal.invariant-loop-n
invariant-loop-n l = first_ill_flow l.site ≡ first_in (ill l.site) 64 l.n
