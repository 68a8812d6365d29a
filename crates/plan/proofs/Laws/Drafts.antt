-- What a reading has before its next command, and that each command that passes keeps it.
use Prim.Native.Nat.{ℕ, zero, suc, ◌+◌, ◌<◌, ◌≤◌}
use mathlib.Core.Path.{◌≡◌, refl}
use mathlib.Core.Bool.{true}
use mathlib.Core.Logic.{inl, inr, ⊎_elim}
use lib.ListN.{get_or, set, length-set}
use lib.Seq.{get_or-set_same, get_or-set_other}
use borrow.Author.Tests.{eq-eqb, eqb-true}
use native.Mathlib.Decide.{ℕ_discrete}
use native.Mathlib.Omega.{arith}
use Rattle.lists.specs.Search.{first}
use Rattle.lists.proofs.Laws.Search.{lt_or_le}
use Rattle.site.specs.declared.Site.{Site}
use Rattle.site.specs.declared.Flow.{Flow}
use Rattle.site.specs.Sites.{empty_site, live, with_flow}
use Rattle.tree.specs.Tree.{up}
use Rattle.limits.specs.declared.Node.{Node}
use Rattle.site_check.specs.Check.{shaped, node_of, flow_of, ill_node, ill_flow, first_ill_node, first_ill_flow, formed}
use Rattle.site_check.specs.Words.{Shape, IdleAt, Formed, Unscheduled}
use Rattle.limits.specs.Words.{NodeGood}
use Rattle.site_check.proofs.Laws.Forms.{formed_when, linkless_idle, flow_new, flow_old, flow_formed}
use Rattle.limits.proofs.Laws.Forms.{good_same, good_wider, flow_good}
use Rattle.plan_commands.specs.Commands.{Draft, node_fault, flow_fault, with_node, node_added, flow_added, blank}
use Rattle.plan_commands.proofs.Laws.Commands.{node_passed}

-- `next` is one above the highest number of a live flow, and 0 where no flow is live.
pub record NextOf (s : Site) (next : ℕ) : Type 0 where
  pub above : (n : ℕ) → live s n ≡ true → n < next
  pub top : (n : ℕ) → next ≡ suc n → live s n ≡ true

-- Nodes and flows are in form, no flow number from `next` on is in use, and there is no schedule.
pub record Drafted (d : Draft) : Type 0 where
  pub formed : Formed d.site
  pub room : d.next ≤ 64
  pub free : (n : ℕ) → d.next ≤ n → IdleAt d.site n
  pub top : (n : ℕ) → d.next ≡ suc n → live d.site n ≡ true
  pub bare : Unscheduled d.site

pub drafted_next : (d : Draft) → Drafted d → NextOf d.site d.next
unfolding live
drafted_next d g = record {
  above =
      λ n l. ⊎_elim (λ h. h) (λ h. absurd (omega (arith, (g.free n h).idle, eqb-true (get_or d.site.states n 0) 1 l))) (lt_or_le n d.next);
  top = g.top;
}

-- Before the first command.
pub blank_drafted : Drafted blank
unfolding shaped formed first_ill_node first_ill_flow first node_of flow_of ill_node ill_flow
blank_drafted =
    let g = (formed_when empty_site).0 refl in
    record {
      formed = g;
      room = omega arith;
      free = λ n l. linkless_idle empty_site g refl n;
      top = λ n e. absurd (omega arith);
      bare = record { offsets = refl; periods = refl };
    }

-- One node more: it stands at the index that was next, and the other entries stay as they are.
module _ (s : Site) (n : Node) where
  pub node_new : Shape s → s.links < 63 → node_of (with_node s n) s.links ≡ n
  unfolding with_node node_of
  node_new long l = λ i. record {
    parent = get_or-set_same s.parents s.links n.parent 0 (omega (arith, long.parents)) i;
    capacity = get_or-set_same s.capacities s.links n.capacity 0 (omega (arith, long.capacities)) i;
    gap = get_or-set_same s.gaps s.links n.gap 0 (omega (arith, long.gaps)) i;
  }

  pub node_old : (k : ℕ) → (k ≡ s.links → ⊥) → node_of (with_node s n) k ≡ node_of s k
  unfolding with_node node_of
  node_old k m = λ i. record {
    parent = get_or-set_other s.parents s.links k n.parent 0 m i;
    capacity = get_or-set_other s.capacities s.links k n.capacity 0 m i;
    gap = get_or-set_other s.gaps s.links k n.gap 0 m i;
  }

  -- The parents of the nodes before it stay.
  up_there : (m : ℕ) → m ≤ s.links → up (set s.parents s.links n.parent) m ≡ up s.parents m
  unfolding up
  up_there zero l = refl
  up_there (suc i) l = get_or-set_other s.parents s.links i n.parent (suc i) (λ e. omega arith)

  node_kept : (k : ℕ) (v : Node) → k ≤ s.links → NodeGood s.parents k v → NodeGood (with_node s n).parents k v
  unfolding with_node
  node_kept k v l = good_same _ s.parents k v (λ m h. up_there m (omega arith))

  node_formed : Formed s → s.links < 63 → NodeGood s.parents s.links n → Formed (with_node s n)
  unfolding with_node flow_of
  node_formed g room w = record {
    shape = record {
      parents = simp length-set g.shape.parents;
      capacities = simp length-set g.shape.capacities;
      gaps = simp length-set g.shape.gaps;
      offsets = g.shape.offsets;
      periods = g.shape.periods;
      states = g.shape.states;
      entries = g.shape.entries;
      rates = g.shape.rates;
      deadlines = g.shape.deadlines;
    };
    few = omega arith;
    nodes =
        λ i l. elim (ℕ_discrete i s.links) [
          | yes e ↦ rw (e, node_new g.shape room) (node_kept s.links n (omega arith) w)
          | no m ↦ rw (node_old i m) (node_kept i (node_of s i) (omega arith) (g.nodes i (omega arith)))
        ];
    spare = λ i l. rw (node_old i (omega arith)) (g.spare i (omega arith));
    flows =
        λ k. ⊎_elim (λ v. inl v)
        (λ v. inr (record { live = v.live; good = good_wider s.links (s.links + 1) 0 0 _ (omega arith) (omega arith) v.good })) (g.flows k);
  }

pub node_drafted : (d : Draft) (n : Node) → Drafted d → node_fault d n ≡ 0 → Drafted (node_added d n)
unfolding node_added with_node flow_of live
node_drafted d n g e =
    let w = node_passed d n e in
    record {
      formed = node_formed d.site n g.formed w.1 w.2;
      room = g.room;
      free = g.free;
      top = g.top;
      bare = record { offsets = g.bare.offsets; periods = g.bare.periods };
    }

pub flow_drafted : (d : Draft) (f : Flow) → Drafted d → flow_fault d f ≡ 0 → Drafted (flow_added d f)
unfolding flow_fault flow_added with_flow live
flow_drafted d f g e =
    let w = (flow_good d.site.links d.next f).0 e in
    record {
      formed = flow_formed d.site f g.formed (good_wider d.site.links d.site.links d.next 0 f (omega arith) (omega arith) w);
      room = omega (arith, w.within.number_most);
      free =
          λ n l. let h = flow_old d.site 1 f n (omega arith) in rw (h.0, h.1) (g.free n (omega (arith, w.number_least)));
      top = λ n e. let k : n ≡ f.number = omega arith in rw k (eq-eqb _ _ (flow_new d.site 1 f g.formed.shape (omega (arith, w.within.number_most))).0);
      bare = record { offsets = g.bare.offsets; periods = g.bare.periods };
    }
