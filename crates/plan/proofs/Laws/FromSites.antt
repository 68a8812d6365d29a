-- Site to bytes to site: bytes that begin with the commands of nodes and flows in form are read to them.
use Prim.Native.Nat.{ℕ, zero, suc, ◌+◌, ◌-◌, ◌<◌, ◌≤◌}
use mathlib.Core.Path.{◌≡◌, refl, sym, ◌∙◌, ap}
use mathlib.Core.List.{List, ◌++◌, append_assoc}
use mathlib.Core.Logic.{◌⊎◌, inl, inr, ⊎_elim}
use mathlib.Core.Bool.{true, cond}
use lib.Dec.{eqb}
use lib.ListN.{length, get_or, take, drop, take-append-drop, length-append, set, replicate, length-drop}
use lib.Seq.{drop_at}
use borrow.Author.Tests.{le-ltb, lt-leb, ne_eqb, eqb-true}
use native.Mathlib.Nat.{eq-or-lt_of_le}
use native.Mathlib.Omega.{arith}
use Rattle.site.specs.declared.Site.{Site}
use Rattle.site.specs.Sites.{empty_site, live, with_flow, with_schedule}
use Rattle.tree.specs.Tree.{up}
use Rattle.tree.proofs.Laws.Tree.{up_in}
use Rattle.format.specs.Bytes.{number_at, bytes_of}
use Rattle.plan_commands.specs.Commands.{Draft, node_at, flow_at, node_fault, flow_fault, with_node, node_added, flow_added, decode, later_fault, after, plans}
use Rattle.site_check.specs.Check.{node_of, flow_of}
use Rattle.plan_writer.specs.Write.{node_bytes, flow_bytes, flow_if_live, command_bytes}
use Rattle.lists.specs.Lists.{joined}
use Rattle.limits.specs.Words.{NodeGood}
use Rattle.site_check.specs.Words.{IdleAt, LiveAt, Formed}
use Rattle.plan.proofs.Laws.Drafts.{NextOf}
use Rattle.plan.proofs.Laws.Lists.{upto, upto_long, upto_below, upto_zeros, upto_more, upto_skip, upto_all, upto_full}
use Rattle.format.proofs.Laws.{number_bytes, byte_at, head_at, left_at, left_long, node_some, flow_some}
use Rattle.site_check.proofs.Laws.Flows.{live_few}
use Rattle.limits.proofs.Laws.Forms.{node_good, flow_good, good_same, good_wider}
use Rattle.format.specs.Commands.{size_of}
use Rattle.format.specs.Reading.{fault_of}
use Rattle.format.proofs.Laws.Reading.{read_on, read_go}
use Rattle.plan_commands.proofs.Laws.Decode.{decode_start}
use Rattle.plan_writer.proofs.Laws.Write.{node_size, flow_size, live_bytes, idle_bytes}

-- No offsets, and no periods.
abbrev pub zeros : List ℕ
zeros = replicate 63 0

-- The first k nodes of a site and its flows with numbers below n, without a schedule.
unfoldable pub part : Site → ℕ → ℕ → Site
part s k n = record {
  links = k;
  parents = upto k s.parents;
  capacities = upto k s.capacities;
  gaps = upto k s.gaps;
  offsets = zeros;
  periods = zeros;
  states = upto n s.states;
  entries = upto n s.entries;
  rates = upto n s.rates;
  deadlines = upto n s.deadlines;
}

-- What has been read of a site after its first k nodes and its flows with numbers below n.
abbrev draft : Site → ℕ → ℕ → ℕ → Draft
draft s k n next = record { site = part s k n; next = next }

-- The parents of the first k nodes are those of the site.
up_same : (p : List ℕ) (k : ℕ) → k ≤ length p → (m : ℕ) → m ≤ k → up (upto k p) m ≡ up p m
unfolding up
up_same p k h zero l = refl
up_same p k h (suc i) l =
    sym (up_in (upto k p) (suc i) (omega arith) (omega (arith, upto_long p k h))) ∙ upto_below p k (suc i - 1) h (omega arith)
    ∙ up_in p (suc i) (omega arith) (omega arith)

module _ (s : Site) (k : ℕ) (f : NodeGood s.parents k (node_of s k)) where
  -- The node's command, wherever it stands.
  node_there : (bytes rest : List ℕ) (at : ℕ) → drop at bytes ≡ node_bytes s k ++ rest → node_at bytes at ≡ node_of s k
  unfolding node_at node_of node_bytes number_at bytes_of
  node_there bytes rest at e =
      let p : number_at 1 bytes (at + 1) ≡ get_or s.parents k 0 = omega (arith, byte_at bytes at _ 1 e) in
      let c : number_at 2 bytes (at + 2) ≡ get_or s.capacities k 0 =
      number_bytes 2 (get_or s.capacities k 0) bytes (bytes_of 2 (get_or s.gaps k 0) ++ rest) (at + 2) (omega (arith, f.within.capacity_most))
      (left_at bytes at _ 2 e) in
      let d : number_at 2 bytes (at + 4) ≡ get_or s.gaps k 0 =
      number_bytes 2 (get_or s.gaps k 0) bytes rest (at + 4) (omega (arith, f.within.gap_most)) (left_at bytes at _ 4 e) in
      λ i. record { parent = p i; capacity = c i; gap = d i }

  -- It passes the checks after the nodes before it.
  node_clean : length s.parents ≡ 63 → k < 63 → node_fault (draft s k 0 0) (node_of s k) ≡ 0
  unfolding node_fault part
  node_clean long h =
      simp (lt-leb 63 k (omega arith))
      ((node_good (upto k s.parents) k (node_of s k)).1 (good_same _ s.parents k _ (up_same s.parents k (omega arith)) f))

-- The same of a flow that is live.
module _ (s : Site) (n : ℕ) (f : LiveAt s n) where
  flow_there : (bytes rest : List ℕ) (at : ℕ) → drop at bytes ≡ flow_bytes s n ++ rest → flow_at bytes at ≡ flow_of s n
  unfolding flow_at flow_of flow_bytes number_at bytes_of
  flow_there bytes rest at e =
      let m : number_at 1 bytes (at + 1) ≡ n = omega (arith, byte_at bytes at _ 1 e) in
      let o : number_at 1 bytes (at + 2) ≡ get_or s.entries n 0 = omega (arith, byte_at bytes at _ 2 e) in
      let r : number_at 1 bytes (at + 3) ≡ get_or s.rates n 0 = omega (arith, byte_at bytes at _ 3 e) in
      let d : number_at 2 bytes (at + 4) ≡ get_or s.deadlines n 0 =
      number_bytes 2 (get_or s.deadlines n 0) bytes rest (at + 4) (omega (arith, f.good.within.deadline_most)) (left_at bytes at _ 4 e) in
      λ i. record { number = m i; entry = o i; rate = r i; deadline = d i }

  flow_clean : (next : ℕ) → next ≤ n → flow_fault (draft s s.links n next) (flow_of s n) ≡ 0
  unfolding flow_fault flow_of part
  flow_clean next l = (flow_good s.links next (flow_of s n)).1 (good_wider s.links s.links 0 next _ (omega arith) l f.good)

module _ (s : Site) (g : Formed s) where
  -- Before the first node.
  part_none : part s 0 0 ≡ empty_site
  unfolding part
  part_none = rw (
    upto_zeros s.parents 63 g.shape.parents,
    upto_zeros s.capacities 63 g.shape.capacities,
    upto_zeros s.gaps 63 g.shape.gaps,
    upto_zeros s.states 64 g.shape.states,
    upto_zeros s.entries 64 g.shape.entries,
    upto_zeros s.rates 64 g.shape.rates,
    upto_zeros s.deadlines 64 g.shape.deadlines,
  )

  -- All of it is the site without its schedule.
  pub part_all : part s s.links 64 ≡ with_schedule s zeros zeros
  unfolding part with_schedule node_of
  part_all = rw (
    upto_all s.parents s.links (omega (arith, g.few, g.shape.parents)) (λ i l. (g.spare i l).parent),
    upto_all s.capacities s.links (omega (arith, g.few, g.shape.capacities)) (λ i l. (g.spare i l).capacity),
    upto_all s.gaps s.links (omega (arith, g.few, g.shape.gaps)) (λ i l. (g.spare i l).gap),
    upto_full s.states 64 g.shape.states,
    upto_full s.entries 64 g.shape.entries,
    upto_full s.rates 64 g.shape.rates,
    upto_full s.deadlines 64 g.shape.deadlines,
  )

  -- One node more, one flow more.
  node_put : (k : ℕ) → k < s.links → node_added (draft s k 0 0) (node_of s k) ≡ draft s (k + 1) 0 0
  unfolding node_added with_node node_of part
  node_put k h = rw (
    upto_more s.parents k (omega (arith, g.few, g.shape.parents)),
    upto_more s.capacities k (omega (arith, g.few, g.shape.capacities)),
    upto_more s.gaps k (omega (arith, g.few, g.shape.gaps)),
  )

  flow_put : (n next : ℕ) → n < 64 → LiveAt s n → flow_added (draft s s.links n next) (flow_of s n) ≡ draft s s.links (n + 1) (n + 1)
  unfolding flow_added with_flow flow_of part
  flow_put n next h f =
      rw (
        state,
        upto_more s.entries n (omega (arith, g.shape.entries)),
        upto_more s.rates n (omega (arith, g.shape.rates)),
        upto_more s.deadlines n (omega (arith, g.shape.deadlines)),
      )
    where
      state : set (upto n s.states) n 1 ≡ upto (n + 1) s.states
      state = rw f.live at (upto_more s.states n (omega (arith, g.shape.states)))

  -- A number that is not in use adds nothing.
  flow_skip : (n : ℕ) → n < 64 → IdleAt s n → part s s.links (n + 1) ≡ part s s.links n
  unfolding part flow_of
  flow_skip n h f =
      rw (
        upto_skip s.states n (omega (arith, g.shape.states)) f.idle,
        upto_skip s.entries n (omega (arith, g.shape.entries)) f.entry,
        upto_skip s.rates n (omega (arith, g.shape.rates)) f.rate,
        upto_skip s.deadlines n (omega (arith, g.shape.deadlines)) f.deadline,
      )

-- A NODE or a FLOW that passes its checks is read, and the reading goes on behind it.
module _ (bytes : List ℕ) (at : ℕ) (d : Draft) where
  command_read : (k : ℕ) → (k ≡ 255 → ⊥) → 1 ≤ size_of k → at + size_of k ≤ length bytes → get_or bytes at 0 ≡ k
      → cond (eqb k 1) (node_fault d (node_at bytes at)) (flow_fault d (flow_at bytes at)) ≡ 0
      → read_on plans bytes at d ≡ read_on plans bytes (at + size_of k) (cond (eqb k 1) (node_added d (node_at bytes at)) (flow_added d (flow_at bytes at)))
  unfolding fault_of later_fault after
  command_read k other some inside t e =
      let n : size_of k ≡ 0 → ⊥ = omega arith in
      rw t at (read_go plans bytes at d (omega arith) (λ z. other (sym t ∙ z)) (rw (t, ne_eqb _ _ n, le-ltb (length bytes) (at + size_of k) inside) e))

  node_read : at + size_of 1 ≤ length bytes → get_or bytes at 0 ≡ 1 → node_fault d (node_at bytes at) ≡ 0
      → read_on plans bytes at d ≡ read_on plans bytes (at + size_of 1) (node_added d (node_at bytes at))
  node_read = command_read 1 (omega arith) node_some

  flow_read : at + size_of 2 ≤ length bytes → get_or bytes at 0 ≡ 2 → flow_fault d (flow_at bytes at) ≡ 0
      → read_on plans bytes at d ≡ read_on plans bytes (at + size_of 2) (flow_added d (flow_at bytes at))
  flow_read = command_read 2 (omega arith) flow_some

-- How far the flows with numbers below n bring `next`.
record NextUpto (s : Site) (n next : ℕ) : Type 0 where
  most : next ≤ n
  above : (k : ℕ) → k < n → live s k ≡ true → k < next
  top : (k : ℕ) → next ≡ suc k → live s k ≡ true

module _ (s : Site) (n next : ℕ) where
  next_idle : IdleAt s n → NextUpto s n next → NextUpto s (n + 1) next
  unfolding live
  next_idle f w = record {
    most = omega (arith, w.most);
    above = λ k l e. ⊎_elim (λ q. absurd (omega (arith, f.idle, eqb-true (get_or s.states k 0) 1 e, ap (λ (m : ℕ). get_or s.states m 0) q))) (λ h. w.above k h e)
        (eq-or-lt_of_le (omega arith));
    top = w.top;
  }

  next_live : LiveAt s n → NextUpto s n next → NextUpto s (n + 1) (n + 1)
  unfolding live
  next_live f w = record {
    most = omega arith;
    above = λ k l e. l;
    top = λ k e. let q : k ≡ n = omega arith in rw (q, f.live);
  }

module _ (s : Site) (g : Formed s) (bytes : List ℕ) where
  -- A command lies within the bytes.
  node_inside : (k at : ℕ) (rest : List ℕ) → drop at bytes ≡ node_bytes s k ++ rest → at + size_of 1 ≤ length bytes
  node_inside k at rest e =
      omega (arith, node_some, left_long bytes at _ e, length-append (node_bytes s k) rest, node_size s k)

  flow_inside : (n at : ℕ) (rest : List ℕ) → drop at bytes ≡ flow_bytes s n ++ rest → at + size_of 2 ≤ length bytes
  flow_inside n at rest e =
      omega (arith, flow_some, left_long bytes at _ e, length-append (flow_bytes s n) rest, flow_size s n)

  -- The reading of one command, with what is left then.
  node_step : (k at : ℕ) (rest : List ℕ) → k < s.links → drop at bytes ≡ node_bytes s k ++ rest
      → (read_on plans bytes at (draft s k 0 0) ≡ read_on plans bytes (at + size_of 1) (draft s (k + 1) 0 0)) × (drop (at + size_of 1) bytes ≡ rest)
  unfolding node_bytes
  node_step k at rest h e = (
    node_read bytes at (draft s k 0 0) (node_inside k at rest e) (head_at bytes at _ e)
        (rw there (node_clean s k (g.nodes k h) g.shape.parents (omega (arith, g.few))))
        ∙ ap (λ (d : Draft). read_on plans bytes (at + size_of 1) d) (rw there (node_put s g k h)),
    left_at bytes at _ (size_of 1) e ∙ drop_at (node_bytes s k) rest (size_of 1) (node_size s k),
  )
    where
      there : node_at bytes at ≡ node_of s k
      there = node_there s k (g.nodes k h) bytes rest at e

  flow_step : (n next at : ℕ) (rest : List ℕ) → n < 64 → next ≤ n → LiveAt s n → drop at bytes ≡ flow_bytes s n ++ rest
      → (read_on plans bytes at (draft s s.links n next) ≡ read_on plans bytes (at + size_of 2) (draft s s.links (n + 1) (n + 1)))
      × (drop (at + size_of 2) bytes ≡ rest)
  unfolding flow_bytes
  flow_step n next at rest h l f e = (
    flow_read bytes at (draft s s.links n next) (flow_inside n at rest e) (head_at bytes at _ e)
        (rw there (flow_clean s n f next l))
        ∙ ap (λ (d : Draft). read_on plans bytes (at + size_of 2) d) (rw there (flow_put s g n next h f)),
    left_at bytes at _ (size_of 2) e ∙ drop_at (flow_bytes s n) rest (size_of 2) (flow_size s n),
  )
    where
      there : flow_at bytes at ≡ flow_of s n
      there = flow_there s n f bytes rest at e

  -- From flow number n on the reading comes to an index m where `rest` is left.
  abbrev FlowsRead : ℕ → ℕ → ℕ → List ℕ → Type 0
  FlowsRead n next at rest =
      (m : ℕ) × (last : ℕ) × (read_on plans bytes at (draft s s.links n next) ≡ read_on plans bytes m (draft s s.links 64 last))
      × (m ≤ length bytes) × (drop m bytes ≡ rest) × NextUpto s 64 last

  onward : (n next at k more m : ℕ) (rest : List ℕ)
      → read_on plans bytes at (draft s s.links n next) ≡ read_on plans bytes m (draft s s.links k more) → FlowsRead k more m rest → FlowsRead n next at rest
  onward n next at k more m rest e (i, last, q, l, r, w) = (i, last, e ∙ q, l, r, w)

  -- r numbers are left.
  flows_read : (r n next at : ℕ) (rest : List ℕ) → n + r ≡ 64 → NextUpto s n next → at ≤ length bytes
      → drop at bytes ≡ joined (flow_if_live s) r n ++ rest → FlowsRead n next at rest
  unfolding joined
  flows_read zero n next at rest c w h e = let z : n ≡ 64 = omega arith in (at, next, rw z, h, e, rw (← z) w)
  flows_read (suc r) n next at rest c w h e = go (g.flows n) (flows_read r (n + 1))
    where
      after_n : List ℕ
      after_n = joined (flow_if_live s) r (n + 1) ++ rest

      here : drop at bytes ≡ flow_if_live s n ++ after_n
      here = e ∙ append_assoc (flow_if_live s n) (joined (flow_if_live s) r (n + 1)) rest

      go : IdleAt s n ⊎ LiveAt s n
          → ((next at : ℕ) (rest : List ℕ) → n + 1 + r ≡ 64 → NextUpto s (n + 1) next → at ≤ length bytes
          → drop at bytes ≡ joined (flow_if_live s) r (n + 1) ++ rest → FlowsRead (n + 1) next at rest)
          → FlowsRead n next at rest
      go (inl f) ih =
          rw (← flow_skip s g n (omega arith) f)
          (ih next at rest (omega arith) (next_idle s n next f w) h (rw (← idle_bytes s n (omega (arith, f.idle))) at here))
      go (inr f) ih =
          let there = rw (← live_bytes s n f.live) at here in
          let v = flow_step n next at after_n (omega arith) w.most f there in
          onward n next at (n + 1) (n + 1) (at + size_of 2) rest v.0
          (ih (n + 1) (at + size_of 2) rest (omega arith) (next_live s n next f w) (flow_inside n at after_n there) v.1)

  -- From the node at index k on, with r nodes left.
  nodes_read : (r k at : ℕ) (rest : List ℕ) → k + r ≡ s.links → at ≤ length bytes → drop at bytes ≡ joined (node_bytes s) r k ++ rest
      → (m : ℕ) × (read_on plans bytes at (draft s k 0 0) ≡ read_on plans bytes m (draft s s.links 0 0)) × (m ≤ length bytes) × (drop m bytes ≡ rest)
  unfolding joined
  nodes_read zero k at rest c h e = let z : k ≡ s.links = omega arith in (at, rw z, h, e)
  nodes_read (suc r) k at rest c h e =
      let there = e ∙ append_assoc (node_bytes s k) (joined (node_bytes s) r (k + 1)) rest in
      let v = node_step k at (joined (node_bytes s) r (k + 1) ++ rest) (omega arith) there in
      let u = nodes_read r (k + 1) (at + size_of 1) rest (omega arith) (node_inside k at _ there) v.1 in
      (u.0, v.0 ∙ u.1, u.2, u.3)

-- Bytes that begin with the commands of s, wherever they go on.
pub begun_read : (bytes : List ℕ) (at : ℕ) (s : Site) → Formed s → at ≤ length bytes → take at bytes ≡ command_bytes s
    → (next : ℕ) × (decode bytes ≡ read_on plans bytes at (record { site = with_schedule s zeros zeros; next = next })) × NextOf s next
unfolding command_bytes
begun_read bytes at s g within are =
    let all : bytes ≡ command_bytes s ++ drop at bytes = sym (take-append-drop at bytes) ∙ ap (λ (l : List ℕ). l ++ drop at bytes) are in
    from_nodes (nodes_read s g bytes s.links 0 0 (flows ++ drop at bytes) (omega arith) (omega arith) (all ∙ append_assoc nodes flows (drop at bytes)))
  where
    nodes : List ℕ
    nodes = joined (node_bytes s) s.links 0

    flows : List ℕ
    flows = joined (flow_if_live s) 64 0

    none : NextUpto s 0 0
    none = record { most = omega arith; above = λ k l. absurd (omega arith); top = λ k e. absurd (omega arith) }

    start : decode bytes ≡ read_on plans bytes 0 (draft s 0 0 0)
    start = decode_start bytes ∙ ap (λ (t : Site). read_on plans bytes 0 (record { site = t; next = 0 })) (sym (part_none s g))

    same : (m : ℕ) → m ≤ length bytes → drop m bytes ≡ drop at bytes → m ≡ at
    same m l e = omega (arith, length-drop m bytes, length-drop at bytes, ap length e)

    next_all : (next : ℕ) → NextUpto s 64 next → NextOf s next
    next_all next w = record { above = λ n l. w.above n (live_few s g n l) l; top = w.top }

    from_flows : (m : ℕ) → decode bytes ≡ read_on plans bytes m (draft s s.links 0 0) → FlowsRead s g bytes 0 0 m (drop at bytes)
        → (next : ℕ) × (decode bytes ≡ read_on plans bytes at (record { site = with_schedule s zeros zeros; next = next })) × NextOf s next
    from_flows m h (k, next, q, l, r, w) = (next, h ∙ q ∙ rw (part_all s g, same k l r), next_all next w)

    from_nodes : (m : ℕ) × (read_on plans bytes 0 (draft s 0 0 0) ≡ read_on plans bytes m (draft s s.links 0 0)) × (m ≤ length bytes)
        × (drop m bytes ≡ flows ++ drop at bytes)
        → (next : ℕ) × (decode bytes ≡ read_on plans bytes at (record { site = with_schedule s zeros zeros; next = next })) × NextOf s next
    from_nodes (m, q, l, r) = from_flows m (start ∙ q) (flows_read s g bytes 64 0 0 m (drop at bytes) (omega arith) none l r)
