-- The empty site passes check 14, and no other site without links does.
use Prim.Native.Nat.{ℕ, ◌<◌}
use mathlib.Core.Path.{◌≡◌, refl, sym, ◌∙◌, ap}
use mathlib.Core.Bool.{true}
use mathlib.Core.List.{List}
use lib.ListN.{length, get_or, replicate, length-replicate, get_or-replicate}
use lib.Seq.{ext_get_or}
use native.Mathlib.Omega.{arith}
use Rattle.lists.specs.Search.{first}
use Rattle.site.specs.declared.Site.{Site}
use Rattle.site.specs.Sites.{empty_site, live, with_schedule, used}
use Rattle.schedule.specs.Schedule.{gaps_from, gaps_under, crowded, first_crowded, entry_assigned, offsets_assigned, periods_assigned, scheduled}
use Rattle.lists.specs.Lists.{listed, same}
use Rattle.reservations.specs.Reservations.{first_over, late, first_late}
use Rattle.judgement.specs.Judge.{reserved, judge_of}
use Rattle.schedule.proofs.Laws.Schedule.{offsets_assigned_long, periods_assigned_long, entry_unused}
use Rattle.site_check.specs.Check.{shaped, node_of, flow_of, ill_node, ill_flow, first_ill_node, first_ill_flow, formed, accepts, stands, passes_of}
use Rattle.site_check.specs.Words.{Formed}
use Rattle.site_check.proofs.Laws.Forms.{linkless_idle}

pub empty_passes : passes_of empty_site ≡ true
unfolding passes_of shaped formed first_ill_node first_ill_flow node_of flow_of ill_node ill_flow stands accepts judge_of first_crowded first crowded gaps_under gaps_from
    used reserved first_over first_late late live same offsets_assigned periods_assigned listed entry_assigned scheduled with_schedule
empty_passes = refl

zeros : (xs : List ℕ) (n : ℕ) → length xs ≡ n → ((i : ℕ) → i < n → get_or xs i 0 ≡ 0) → xs ≡ replicate n 0
zeros xs n e each =
    ext_get_or 0 xs (replicate n 0) (e ∙ sym (length-replicate n 0)) (λ i l. each i (omega arith) ∙ sym (get_or-replicate n i 0 0 (omega arith)))

pub linkless_empty : (s : Site) → Formed s → s ≡ scheduled s → s.links ≡ 0 → s ≡ empty_site
unfolding scheduled with_schedule used node_of flow_of
linkless_empty s g own z = λ i. record {
  links = z i;
  parents = zeros s.parents 63 g.shape.parents (λ k l. (g.spare k (omega arith)).parent) i;
  capacities = zeros s.capacities 63 g.shape.capacities (λ k l. (g.spare k (omega arith)).capacity) i;
  gaps = zeros s.gaps 63 g.shape.gaps (λ k l. (g.spare k (omega arith)).gap) i;
  offsets = (ap (λ (t : Site). t.offsets) own ∙ zeros (offsets_assigned s) 63 (offsets_assigned_long s) (λ k l. (entry_unused s k (omega arith) l).0)) i;
  periods = (ap (λ (t : Site). t.periods) own ∙ zeros (periods_assigned s) 63 (periods_assigned_long s) (λ k l. (entry_unused s k (omega arith) l).1)) i;
  states = zeros s.states 64 g.shape.states (λ n l. (linkless_idle s g z n).idle) i;
  entries = zeros s.entries 64 g.shape.entries (λ n l. (linkless_idle s g z n).entry) i;
  rates = zeros s.rates 64 g.shape.rates (λ n l. (linkless_idle s g z n).rate) i;
  deadlines = zeros s.deadlines 64 g.shape.deadlines (λ n l. (linkless_idle s g z n).deadline) i;
}
