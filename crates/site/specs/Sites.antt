-- Sites as values. A link is named by its node's number n and has the index n - 1 in every list of links; a flow's index is its number.
use Rattle.std.specs.Prelude.{ℕ, min, cond, Bool, List, get_or, set, replicate, eqb}
use Rattle.site.specs.declared.Site.{Site}
use Rattle.lists.specs.Lists.{sum_to}
use Rattle.site.specs.declared.Flow.{Flow}

-- 01: the empty site, which a refused reading comes with and, by 02, U3, END alone is read to. No links, no flows, every entry 0.
abbrev pub empty_site : Site
empty_site = record {
  links = 0;
  parents = replicate 63 0;
  capacities = replicate 63 0;
  gaps = replicate 63 0;
  offsets = replicate 63 0;
  periods = replicate 63 0;
  states = replicate 64 0;
  entries = replicate 64 0;
  rates = replicate 64 0;
  deadlines = replicate 64 0;
}

-- How many links a site has: 63 at most, whatever its count says.
unfoldable pub used : ℕ → ℕ
used links = min links 63

-- 01, live: what a FLOW or an admission brought in and no release has taken out; its state is 1.
unfoldable pub live : Site → ℕ → Bool
live s n = eqb (get_or s.states n 0) 1

-- How many flows are live.
unfoldable pub flow_count : Site → ℕ
flow_count s = sum_to (λ n. cond (live s n) 1 0) 64

-- The site with other lists of flows.
abbrev pub with_flows : Site → List ℕ → List ℕ → List ℕ → List ℕ → Site
with_flows s states entries rates deadlines = record {
  links = s.links;
  parents = s.parents;
  capacities = s.capacities;
  gaps = s.gaps;
  offsets = s.offsets;
  periods = s.periods;
  states = states;
  entries = entries;
  rates = rates;
  deadlines = deadlines;
}

-- The site with other states. Functions that are lent the states alone promise what they do for every site that has them.
abbrev pub with_states : Site → List ℕ → Site
with_states s states = with_flows s states s.entries s.rates s.deadlines

-- The site with these fields at one flow number.
abbrev pub with_fields : Site → ℕ → ℕ → ℕ → ℕ → ℕ → Site
with_fields s n state entry rate deadline =
    with_flows s (set s.states n state) (set s.entries n entry) (set s.rates n rate) (set s.deadlines n deadline)

-- The site with a live flow more.
unfoldable pub with_flow : Site → Flow → Site
with_flow s f = with_fields s f.number 1 f.entry f.rate f.deadline

-- The site without the flow of that number.
unfoldable pub without_flow : Site → ℕ → Site
without_flow s n = with_fields s n 0 0 0 0

-- The site with another schedule.
unfoldable pub with_schedule : Site → List ℕ → List ℕ → Site
with_schedule s os ps = record {
  links = s.links;
  parents = s.parents;
  capacities = s.capacities;
  gaps = s.gaps;
  offsets = os;
  periods = ps;
  states = s.states;
  entries = s.entries;
  rates = s.rates;
  deadlines = s.deadlines;
}
