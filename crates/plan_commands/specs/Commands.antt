-- 01, Plan bytes, and the checks of a reading in their order: what the bytes say command by command.
use Rattle.std.specs.Prelude.{ℕ, ◌+◌, cond, List, eqb, ltb, leb, length, get_or, set}
use Rattle.rulings.specs.Outcome.{Outcome}
use Rattle.site.specs.declared.Site.{Site}
use Rattle.site.specs.declared.Flow.{Flow}
use Rattle.site.specs.Sites.{empty_site, with_flow}
use Rattle.limits.specs.declared.Node.{Node}
use Rattle.limits.specs.Limits.{node_limits, flow_limits}
use Rattle.format.specs.Bytes.{number_at}
use Rattle.format.specs.Commands.{size_of}
use Rattle.format.specs.Reading.{Kind, fault_of, ended, read_from}

-- What has been read: nodes and flows, and the smallest number that a FLOW may still have, 0 before the first.
pub record Draft : Type 0 where
  pub site : Site
  pub next : ℕ

-- 01, command 01, NODE, at index `at`: a byte for the parent, two for the capacity, two for the wanted gap.
unfoldable pub node_at : List ℕ → ℕ → Node
node_at bytes at = record { parent = number_at 1 bytes (at + 1); capacity = number_at 2 bytes (at + 2); gap = number_at 2 bytes (at + 4) }

-- 01, command 02, FLOW: a byte each for number, entry node and rate, two for the deadline.
unfoldable pub flow_at : List ℕ → ℕ → Flow
flow_at bytes at = record {
  number = number_at 1 bytes (at + 1);
  entry = number_at 1 bytes (at + 2);
  rate = number_at 1 bytes (at + 3);
  deadline = number_at 2 bytes (at + 4);
}

-- The checks of a NODE from 4 on: 4, 7, then 5, 6, 8. A FLOW has been read just when `next` is above 0.
unfoldable pub node_fault : Draft → Node → ℕ
node_fault d n = cond (ltb 0 d.next) 4 (cond (leb 63 d.site.links) 7 (node_limits d.site.parents d.site.links n))

-- Those of a FLOW: 5, 6.
unfoldable pub flow_fault : Draft → Flow → ℕ
flow_fault d f = flow_limits d.site.links d.next f

-- The checks of a command behind 3 and 2: those of a NODE or of a FLOW.
unfoldable pub later_fault : List ℕ → ℕ → Draft → ℕ
later_fault bytes at d = cond (eqb (get_or bytes at 0) 1) (node_fault d (node_at bytes at)) (flow_fault d (flow_at bytes at))

-- 01: nodes are numbered as they come. What is read so far, with one node more.
unfoldable pub with_node : Site → Node → Site
with_node s n = record {
  links = s.links + 1;
  parents = set s.parents s.links n.parent;
  capacities = set s.capacities s.links n.capacity;
  gaps = set s.gaps s.links n.gap;
  offsets = s.offsets;
  periods = s.periods;
  states = s.states;
  entries = s.entries;
  rates = s.rates;
  deadlines = s.deadlines;
}

unfoldable pub node_added : Draft → Node → Draft
node_added d n = record { site = with_node d.site n; next = d.next }

-- 01: flow numbers rise, so the next one is above this one.
unfoldable pub flow_added : Draft → Flow → Draft
flow_added d f = record { site = with_flow d.site f; next = f.number + 1 }

-- What is read once a command has passed its checks.
unfoldable pub after : List ℕ → ℕ → Draft → Draft
after bytes at d = cond (eqb (get_or bytes at 0) 1) (node_added d (node_at bytes at)) (flow_added d (flow_at bytes at))

-- Plans as a kind of file.
abbrev pub plans : Kind Draft Site
plans = record { size = size_of; later = later_fault; after = after; end = λ size at d. ended size at d.site }

-- 01, the order of a command's checks: 3, 2, and then those of a NODE or of a FLOW.
abbrev pub fault : List ℕ → ℕ → Draft → ℕ
fault = fault_of plans

-- Before the first command.
abbrev pub blank : Draft
blank = record { site = empty_site; next = 0 }

-- The form of the bytes: a refusal, or the nodes and flows, with no schedule yet.
unfoldable pub decode : List ℕ → Outcome Site
decode bytes = read_from plans (length bytes) bytes 0 blank
