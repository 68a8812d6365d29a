-- 01, check 14, as tests on the entries of a site: whether some plan reads to it, as END alone does to the empty site. That these tests say just
-- this is the law `passes_when` of crate `plan`.
use Rattle.std.specs.Prelude.{ℕ, Bool, true, false, not, cond, ◌&&◌, List, eqb, ltb, leb, length, get_or}
use Rattle.rulings.specs.Outcome.{Outcome, accepted, refused}
use Rattle.lists.specs.Search.{first}
use Rattle.site.specs.declared.Site.{Site}
use Rattle.site.specs.declared.Flow.{Flow}
use Rattle.schedule.specs.Schedule.{offsets_assigned, periods_assigned}
use Rattle.judgement.specs.Judge.{judge_of}
use Rattle.limits.specs.declared.Node.{Node}
use Rattle.limits.specs.Limits.{node_limits, flow_limits}
use Rattle.lists.specs.Lists.{same}
use Rattle.slices.specs.Written.{handed}

-- Every list has its length: 63 for links, 64 for flows.
unfoldable pub shaped : Site → Bool
shaped s =
    eqb (length s.parents) 63 && (eqb (length s.capacities) 63 && (eqb (length s.gaps) 63 && (eqb (length s.offsets) 63
    && (eqb (length s.periods) 63 && (eqb (length s.states) 64 && (eqb (length s.entries) 64 && (eqb (length s.rates) 64
    && eqb (length s.deadlines) 64)))))))

-- The node at index i, and the flow of number n.
unfoldable pub node_of : Site → ℕ → Node
node_of s i = record { parent = get_or s.parents i 0; capacity = get_or s.capacities i 0; gap = get_or s.gaps i 0 }

unfoldable pub flow_of : Site → ℕ → Flow
flow_of s n = record { number = n; entry = get_or s.entries n 0; rate = get_or s.rates n 0; deadline = get_or s.deadlines n 0 }

-- The node at index i of a site with so many links and these parents is not within its limits or, past the last link, not all 0.
unfoldable pub ill_node : ℕ → List ℕ → ℕ → Node → Bool
ill_node links parents i n =
    cond (ltb i links) (not (eqb (node_limits parents i n) 0)) (not (eqb n.parent 0 && (eqb n.capacity 0 && eqb n.gap 0)))

-- The flow of a number in this state, on a site with so many links, is neither all 0 nor live and within its limits.
unfoldable pub ill_flow : ℕ → ℕ → Flow → Bool
ill_flow links state f =
    cond (eqb state 0) (not (eqb f.entry 0 && (eqb f.rate 0 && eqb f.deadline 0)))
    (not (eqb state 1 && eqb (flow_limits links 0 f) 0))

-- The first index with such a node, 63 where there is none; the first number with such a flow, 64 where there is none.
unfoldable pub first_ill_node : Site → ℕ
first_ill_node s = first (λ i. ill_node s.links s.parents i (node_of s i)) 63 0

unfoldable pub first_ill_flow : Site → ℕ
first_ill_flow s = first (λ n. ill_flow s.links (get_or s.states n 0) (flow_of s n)) 64 0

-- Nodes and flows are in form and limits, and what is not in use is 0.
unfoldable pub formed : Site → Bool
formed s = leb s.links 63 && (leb 63 (first_ill_node s) && leb 64 (first_ill_flow s))

unfoldable pub accepts : Outcome Site → Bool
accepts (accepted s) = true
accepts (refused number place) = false

-- 11, 12 and 13 let the nodes and flows pass, and the schedule is theirs.
unfoldable pub stands : Site → Bool
stands s = accepts (judge_of s) && (same s.offsets (offsets_assigned s) && same s.periods (periods_assigned s))

-- 01, 14 lets the site pass.
unfoldable pub passes_of : Site → Bool
passes_of s = shaped s && (formed s && stands s)

-- 01, the order of a call that is lent counters: 1 where they are not 576, then 14. The first that fails, 0 where neither does.
unfoldable pub call_fault : Site → List ℕ → ℕ
call_fault s counters = cond (not (eqb (length counters) 576)) 1 (cond (not (passes_of s)) 14 0)

-- 01, what a writer of a site answers and leaves: 14 of the site, then the bytes of its plan or of its schedule.
abbrev pub written_if : Site → List ℕ → List ℕ → Outcome ℕ × List ℕ
written_if s bytes out = handed (passes_of s) bytes out
