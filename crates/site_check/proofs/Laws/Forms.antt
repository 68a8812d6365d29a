-- The form of nodes and flows: the tests say what the words say, and a flow within its limits keeps it.
use Prim.Native.Nat.{ℕ, ◌<◌, ◌≤◌}
use mathlib.Core.Path.{◌≡◌, refl}
use mathlib.Core.Bool.{true, false, ◌&&◌, and-eq-true_iff}
use mathlib.Core.List.{List}
use mathlib.Core.Logic.{◌⊎◌, inl, inr, ⊎_elim, ◌↔◌}
use lib.Dec.{eqb, leb}
use lib.ListN.{length, get_or, length-set, get_or-eq_default}
use lib.Seq.{get_or-set_same, get_or-set_other}
use borrow.Author.Tests.{leb-true, eqb-true, lt-ltb, le-ltb, le-leb, eq-eqb, ne_eqb, not-false}
use native.Mathlib.Decide.{ℕ_discrete}
use native.Mathlib.Omega.{arith}
use Rattle.lists.proofs.Laws.Search.{lt_or_le, first_none}
use Rattle.site.specs.declared.Site.{Site}
use Rattle.site.specs.declared.Flow.{Flow}
use Rattle.site.specs.Sites.{with_fields, with_flow, used}
use Rattle.schedule.specs.Words.{Wellgapped}
use Rattle.limits.specs.declared.Node.{Node}
use Rattle.limits.specs.Limits.{flow_limits}
use Rattle.site_check.specs.Check.{shaped, node_of, flow_of, ill_node, ill_flow, first_ill_node, first_ill_flow, formed}
use Rattle.site_check.specs.Words.{Shape, NoNode, NoFlow, LiveFlow, IdleAt, Formed}
use Rattle.limits.specs.Words.{NodeGood, FlowGood}
use Rattle.limits.proofs.Laws.Forms.{node_good, flow_good}

-- Every list has its length.
shape_when : (s : Site) → (shaped s ≡ true) ↔ Shape s
unfolding shaped
shape_when s = (shape, holds)
  where
    shape : shaped s ≡ true → Shape s
    shape e =
        let a = (and-eq-true_iff (eqb (length s.parents) 63) _).0 e in
        let b = (and-eq-true_iff (eqb (length s.capacities) 63) _).0 a.1 in
        let c = (and-eq-true_iff (eqb (length s.gaps) 63) _).0 b.1 in
        let d = (and-eq-true_iff (eqb (length s.offsets) 63) _).0 c.1 in
        let u = (and-eq-true_iff (eqb (length s.periods) 63) _).0 d.1 in
        let v = (and-eq-true_iff (eqb (length s.states) 64) _).0 u.1 in
        let w = (and-eq-true_iff (eqb (length s.entries) 64) _).0 v.1 in
        let x = (and-eq-true_iff (eqb (length s.rates) 64) _).0 w.1 in
        record {
          parents = eqb-true _ _ a.0;
          capacities = eqb-true _ _ b.0;
          gaps = eqb-true _ _ c.0;
          offsets = eqb-true _ _ d.0;
          periods = eqb-true _ _ u.0;
          states = eqb-true _ _ v.0;
          entries = eqb-true _ _ w.0;
          rates = eqb-true _ _ x.0;
          deadlines = eqb-true _ _ x.1;
        }

    holds : Shape s → shaped s ≡ true
    holds g =
        simp (
          eq-eqb _ _ g.parents,
          eq-eqb _ _ g.capacities,
          eq-eqb _ _ g.gaps,
          eq-eqb _ _ g.offsets,
          eq-eqb _ _ g.periods,
          eq-eqb _ _ g.states,
          eq-eqb _ _ g.entries,
          eq-eqb _ _ g.rates,
          eq-eqb _ _ g.deadlines,
        )

-- What check 14 asks of a node at an index below the number of links, and at one from there on.
module _ (links : ℕ) (parents : List ℕ) (i : ℕ) (n : Node) where
  node_in : i < links → (ill_node links parents i n ≡ false) ↔ NodeGood parents i n
  unfolding ill_node
  node_in l = (
    λ e. (node_good _ _ _).0 (eqb-true _ _ (not-false _ (rw (lt-ltb i links l) at e))),
    λ g. simp (lt-ltb i links l, eq-eqb _ _ ((node_good parents i n).1 g)),
  )

  node_out : links ≤ i → (ill_node links parents i n ≡ false) ↔ NoNode n
  unfolding ill_node
  node_out l = (
    λ e. let a = (and-eq-true_iff (eqb n.parent 0) (eqb n.capacity 0 && eqb n.gap 0)).0 (not-false _ (rw (le-ltb i links l) at e)) in
        let b = (and-eq-true_iff (eqb n.capacity 0) _).0 a.1 in
        record { parent = eqb-true _ _ a.0; capacity = eqb-true _ _ b.0; gap = eqb-true _ _ b.1 },
    λ g. simp (le-ltb i links l, eq-eqb _ _ g.parent, eq-eqb _ _ g.capacity, eq-eqb _ _ g.gap),
  )

-- What it asks of a flow.
flow_fits : (links state : ℕ) (f : Flow) → (ill_flow links state f ≡ false) ↔ (NoFlow state f ⊎ LiveFlow links state f)
unfolding ill_flow
flow_fits links state f = (fits, fine)
  where
    fits : ill_flow links state f ≡ false → NoFlow state f ⊎ LiveFlow links state f
    fits e =
        elim (ℕ_discrete state 0) [
          | yes q ↦
              let a = (and-eq-true_iff (eqb f.entry 0) (eqb f.rate 0 && eqb f.deadline 0)).0 (not-false _ (rw (eq-eqb _ _ q) at e)) in
              let b = (and-eq-true_iff (eqb f.rate 0) _).0 a.1 in
              inl (record { idle = q; entry = eqb-true _ _ a.0; rate = eqb-true _ _ b.0; deadline = eqb-true _ _ b.1 })
          | no m ↦
              let a = (and-eq-true_iff (eqb state 1) (eqb (flow_limits links 0 f) 0)).0 (not-false _ (rw (ne_eqb _ _ m) at e)) in
              inr (record { live = eqb-true _ _ a.0; good = (flow_good links 0 f).0 (eqb-true _ _ a.1) })
        ]

    fine : NoFlow state f ⊎ LiveFlow links state f → ill_flow links state f ≡ false
    fine (inl w) = simp (eq-eqb _ _ w.idle, eq-eqb _ _ w.entry, eq-eqb _ _ w.rate, eq-eqb _ _ w.deadline)
    fine (inr w) = simp (w.live, eq-eqb _ _ ((flow_good links 0 f).1 w.good))

-- Check 14's tests of form.
pub formed_when : (s : Site) → (shaped s && formed s ≡ true) ↔ Formed s
unfolding formed first_ill_node first_ill_flow node_of flow_of
formed_when s = (forms, holds)
  where
    forms : shaped s && formed s ≡ true → Formed s
    forms e =
        let a = (and-eq-true_iff (shaped s) _).0 e in
        let b = (and-eq-true_iff (leb s.links 63) _).0 a.1 in
        let c = (and-eq-true_iff (leb 63 (first_ill_node s)) _).0 b.1 in
        let g : Shape s = (shape_when s).0 a.0 in
        let few : s.links ≤ 63 = leb-true _ _ b.0 in
        let sound : (i : ℕ) → i < 63 → ill_node s.links s.parents i (node_of s i) ≡ false = (first_none _ 63).0 (leb-true _ _ c.0) in
        let fit : (n : ℕ) → n < 64 → ill_flow s.links (get_or s.states n 0) (flow_of s n) ≡ false = (first_none _ 64).0 (leb-true _ _ c.1) in
        record {
          shape = g;
          few = few;
          nodes = λ i l. (node_in _ _ _ _ l).0 (sound i (omega arith));
          spare =
              λ i l. ⊎_elim (λ m. (node_out _ _ _ _ l).0 (sound i m))
              (λ m. record {
                parent = get_or-eq_default s.parents 0 (omega arith);
                capacity = get_or-eq_default s.capacities 0 (omega arith);
                gap = get_or-eq_default s.gaps 0 (omega arith);
              }) (lt_or_le i 63);
          flows =
              λ n. ⊎_elim (λ m. (flow_fits _ _ _).0 (fit n m))
              (λ m. inl (record {
                idle = get_or-eq_default s.states 0 (omega arith);
                entry = get_or-eq_default s.entries 0 (omega arith);
                rate = get_or-eq_default s.rates 0 (omega arith);
                deadline = get_or-eq_default s.deadlines 0 (omega arith);
              })) (lt_or_le n 64);
        }

    holds : Formed s → shaped s && formed s ≡ true
    holds g =
        simp (
          (shape_when s).1 g.shape,
          le-leb _ _ g.few,
          le-leb 63 (first_ill_node s) ((first_none _ 63).1 (λ i l.
              ⊎_elim (λ m. (node_in _ _ _ _ m).1 (g.nodes i m)) (λ m. (node_out _ _ _ _ m).1 (g.spare i m)) (lt_or_le i s.links))),
          le-leb 64 (first_ill_flow s) ((first_none _ 64).1 (λ n l. (flow_fits _ _ _).1 (g.flows n))),
        )

-- The wanted gaps are as the schedule needs them.
pub formed_gapped : (s : Site) → Formed s → Wellgapped s
unfolding used node_of
formed_gapped s g = record { limits = λ i l. let f = g.nodes i (omega arith) in (f.within.gap_some, f.within.gap_most) }

-- No flow is on a site without links.
pub linkless_idle : (s : Site) → Formed s → s.links ≡ 0 → (n : ℕ) → IdleAt s n
linkless_idle s g z n = ⊎_elim (λ f. f) (λ f. absurd (omega (arith, f.good.entry_some, f.good.entry_most))) (g.flows n)

-- Another flow, or none, at one number: its fields stand there, and the other numbers stay as they are.
module _ (s : Site) (state : ℕ) (f : Flow) where
  abbrev changed : Site
  changed = with_fields s f.number state f.entry f.rate f.deadline

  pub flow_new : Shape s → f.number < 64 → (get_or changed.states f.number 0 ≡ state) × (flow_of changed f.number ≡ f)
  unfolding flow_of
  flow_new long l = (
    get_or-set_same s.states f.number state 0 (omega (arith, long.states)),
    λ i. record {
      number = f.number;
      entry = get_or-set_same s.entries f.number f.entry 0 (omega (arith, long.entries)) i;
      rate = get_or-set_same s.rates f.number f.rate 0 (omega (arith, long.rates)) i;
      deadline = get_or-set_same s.deadlines f.number f.deadline 0 (omega (arith, long.deadlines)) i;
    },
  )

  pub flow_old : (n : ℕ) → (n ≡ f.number → ⊥) → (get_or changed.states n 0 ≡ get_or s.states n 0) × (flow_of changed n ≡ flow_of s n)
  unfolding flow_of
  flow_old n m = (
    get_or-set_other s.states f.number n state 0 m,
    λ i. record {
      number = n;
      entry = get_or-set_other s.entries f.number n f.entry 0 m i;
      rate = get_or-set_other s.rates f.number n f.rate 0 m i;
      deadline = get_or-set_other s.deadlines f.number n f.deadline 0 m i;
    },
  )

  -- So a site in form stays in form.
  pub fields_formed : Formed s → f.number < 64 → NoFlow state f ⊎ LiveFlow s.links state f → Formed changed
  unfolding node_of
  fields_formed g l w = record {
    shape = record {
      parents = g.shape.parents;
      capacities = g.shape.capacities;
      gaps = g.shape.gaps;
      offsets = g.shape.offsets;
      periods = g.shape.periods;
      states = simp length-set g.shape.states;
      entries = simp length-set g.shape.entries;
      rates = simp length-set g.shape.rates;
      deadlines = simp length-set g.shape.deadlines;
    };
    few = g.few;
    nodes = g.nodes;
    spare = g.spare;
    flows =
        λ n. elim (ℕ_discrete n f.number) [
          | yes e ↦ let h = flow_new g.shape l in rw (e, h.0, h.1) w
          | no m ↦ let h = flow_old n m in rw (h.0, h.1) (g.flows n)
        ];
  }

-- A live flow more.
pub flow_formed : (s : Site) (f : Flow) → Formed s → FlowGood s.links 0 f → Formed (with_flow s f)
unfolding with_flow
flow_formed s f g w = fields_formed s 1 f g (omega (arith, w.within.number_most)) (inr (record { live = refl; good = w }))
