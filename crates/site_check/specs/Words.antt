-- Form and limits of a site in words of 'for all' and 'exists'. The laws of proofs/Laws.antt say that the definitions mean this.
use Rattle.std.specs.Prelude.{ℕ, ◌≤◌, ◌<◌, ◌≡◌, List, ◌⊎◌, length, get_or, replicate}
use Rattle.rulings.specs.Outcome.{Checks, check}
use Rattle.site.specs.declared.Site.{Site}
use Rattle.site.specs.declared.Flow.{Flow}
use Rattle.schedule.specs.Schedule.{scheduled}
use Rattle.reservations.specs.Words.{Carried, Punctual}
use Rattle.schedule.specs.Words.{Served}
use Rattle.limits.specs.declared.Node.{Node}
use Rattle.site_check.specs.Check.{node_of, flow_of}
use Rattle.limits.specs.Words.{NodeGood, FlowGood}

-- Lists of links have 63 entries, lists of flows 64.
pub record Shape (s : Site) : Type 0 where
  pub parents : length s.parents ≡ 63
  pub capacities : length s.capacities ≡ 63
  pub gaps : length s.gaps ≡ 63
  pub offsets : length s.offsets ≡ 63
  pub periods : length s.periods ≡ 63
  pub states : length s.states ≡ 64
  pub entries : length s.entries ≡ 64
  pub rates : length s.rates ≡ 64
  pub deadlines : length s.deadlines ≡ 64

-- There is no node: its entries are 0.
pub record NoNode (n : Node) : Type 0 where
  pub parent : n.parent ≡ 0
  pub capacity : n.capacity ≡ 0
  pub gap : n.gap ≡ 0

-- There is no flow: its state and its fields are 0.
pub record NoFlow (state : ℕ) (f : Flow) : Type 0 where
  pub idle : state ≡ 0
  pub entry : f.entry ≡ 0
  pub rate : f.rate ≡ 0
  pub deadline : f.deadline ≡ 0

-- The flow is live and within its limits.
pub record LiveFlow (links state : ℕ) (f : Flow) : Type 0 where
  pub live : state ≡ 1
  pub good : FlowGood links 0 f

-- Number n of the site is not in use, or has a live flow.
abbrev pub IdleAt : Site → ℕ → Type 0
IdleAt s n = NoFlow (get_or s.states n 0) (flow_of s n)

abbrev pub LiveAt : Site → ℕ → Type 0
LiveAt s n = LiveFlow s.links (get_or s.states n 0) (flow_of s n)

-- Nodes and flows are in form and limits, and what is not in use is 0. Nothing is said of the schedule.
pub record Formed (s : Site) : Type 0 where
  pub shape : Shape s
  pub few : s.links ≤ 63
  pub nodes : (i : ℕ) → i < s.links → NodeGood s.parents i (node_of s i)
  pub spare : (i : ℕ) → s.links ≤ i → NoNode (node_of s i)
  pub flows : (n : ℕ) → IdleAt s n ⊎ LiveAt s n

-- There is no schedule yet.
pub record Unscheduled (s : Site) : Type 0 where
  pub offsets : s.offsets ≡ replicate 63 0
  pub periods : s.periods ≡ replicate 63 0

-- A site that passes check 14.
pub record Sound (s : Site) : Type 0 where
  pub formed : Formed s
  pub served : Served s
  pub carried : Carried s
  pub punctual : Punctual s
  pub own : s ≡ scheduled s

-- 01, 14: the site handed in is none that passes. Then the other checks.
abbrev pub site_checks : Site → Checks → Checks
site_checks s others = check 14 (λ p. (Sound s → ⊥) × (p ≡ 0)) others

-- 01, the order of a call that is lent counters: 1, 14, then the checks of its own.
abbrev pub call_checks : Site → List ℕ → Checks → Checks
call_checks s counters others = check 1 (λ p. (length counters ≡ 576 → ⊥) × (p ≡ 0)) (site_checks s others)
