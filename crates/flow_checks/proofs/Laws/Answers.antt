-- One law for each answer of the functions that judge a flow and a number, and that the loads of a site give its own checks.
use Prim.Native.Nat.{ℕ, ◌≤◌}
use mathlib.Core.Path.{◌≡◌}
use mathlib.Core.Bool.{Bool, false, not}
use lib.Dec.{ltb}
use lib.ListN.{length}
use borrow.Author.Tests.{le-ltb, eq-eqb, ltb-false}
use Rattle.rulings.specs.Outcome.{accepted}
use Rattle.lists.proofs.Laws.Search.{some_is, none_is}
use Rattle.rulings.proofs.Laws.Faults.{number_some}
use Rattle.rulings.proofs.Laws.Outcomes.{past, checked_pass}
use Rattle.site.specs.declared.Site.{Site}
use Rattle.site.specs.declared.Flow.{Flow}
use Rattle.site.specs.Sites.{live}
use Rattle.tree.specs.Tree.{route}
use Rattle.reservations.specs.Reservations.{periods_judged, loads_of, along}
use Rattle.reservations.proofs.Laws.Reservations.{full_unfit}
use Rattle.limits.specs.Limits.{flow_limits}
use Rattle.flow_checks.specs.Flows.{flow_ruling, number_ruling}
use Rattle.flow_checks.specs.Inner.{flow_ruling_with, flow_ruling_by}

-- A flow that is to come, check by check: `limit`, `t`, `found` and `sum` are what the callees answer.
module _ (link : ℕ) (s : Site) (f : Flow) (limit : ℕ) (limits : limit ≡ flow_limits s.links 0 f) where
  module _ (within : limit ≡ 0) (t : Bool) (lives : t ≡ live s f.number) where
    module _ (free : t ≡ false) (found : ℕ) (is : found ≡ link) where
      module _ (room : found ≡ 0) (sum : ℕ) (sums : sum ≡ along (periods_judged s) (route s.parents f.entry)) where
        pub flow_passes : sum ≤ f.deadline → accepted tt ≡ flow_ruling_with link s f
        unfolding flow_ruling_with
        flow_passes l = rw (← limits, checked_pass limit _ within, ← lives, free, ← is, eq-eqb _ _ room, ← sums, le-ltb _ _ l)

-- With the loads of the site these are its checks.
pub ruling_by_loads : (s : Site) (f : Flow) → length s.parents ≡ 63 → flow_ruling_by (loads_of s) s f ≡ flow_ruling s f
unfolding flow_ruling_with flow_ruling
ruling_by_loads s f long = rw (full_unfit s f.rate long f.entry)

-- A number that is to go.
module _ (s : Site) (n : ℕ) where
  pub number_few : number_ruling s n ≡ accepted tt → n ≤ 63
  unfolding number_ruling
  number_few e = ltb-false 63 n (past (ltb 63 n) 5 0 _ e).0

  module _ (few : n ≤ 63) (t : Bool) (lives : t ≡ live s n) where
    pub number_passes : not t ≡ false → accepted tt ≡ number_ruling s n
    unfolding number_ruling
    number_passes e = rw (le-ltb _ _ few, ← lives, e)

-- What the checks need of a fault, of a link that is found and of none.
pub ruleset judging = (number_some, some_is, none_is)
