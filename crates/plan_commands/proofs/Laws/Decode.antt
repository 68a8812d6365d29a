-- A command of a plan that passes its checks: what it is, and how the reading goes on behind it.
use Prim.Native.Nat.{ℕ, ◌+◌, ◌<◌, ◌≤◌}
use mathlib.Core.Path.{◌≡◌, refl, sym, ◌∙◌}
use mathlib.Core.Bool.{false, cond}
use mathlib.Core.List.{List}
use mathlib.Core.Logic.{◌⊎◌, inl, inr}
use lib.Dec.{eqb}
use lib.ListN.{length, get_or}
use borrow.Author.Tests.{eq-eqb, ne_eqb}
use native.Mathlib.Omega.{arith}
use Rattle.site.specs.declared.Flow.{Flow}
use Rattle.limits.specs.declared.Node.{Node}
use Rattle.format.specs.Commands.{size_of}
use Rattle.format.proofs.Laws.{size_node, size_flow, size_kinds}
use Rattle.format.proofs.Laws.Reading.{read_on, fault_passed, read_go}
use Rattle.plan_commands.specs.Commands.{Draft, node_at, flow_at, node_fault, flow_fault, node_added, flow_added, later_fault, after, plans, fault, decode, blank}

-- What a NODE or a FLOW is that passes, and what is read then.
abbrev pub NodePasses : List ℕ → ℕ → Draft → Type 0
NodePasses bytes at d =
    (get_or bytes at 0 ≡ 1) × (node_fault d (node_at bytes at) ≡ 0) × (after bytes at d ≡ node_added d (node_at bytes at))

abbrev pub FlowPasses : List ℕ → ℕ → Draft → Type 0
FlowPasses bytes at d =
    (get_or bytes at 0 ≡ 2) × (flow_fault d (flow_at bytes at) ≡ 0) × (after bytes at d ≡ flow_added d (flow_at bytes at))

module _ (bytes : List ℕ) (at : ℕ) (d : Draft) where
  -- A command that passes is known, lies within the bytes, and is one of the two.
  pub fault_none : fault bytes at d ≡ 0
      → (1 ≤ size_of (get_or bytes at 0)) × (at + size_of (get_or bytes at 0) ≤ length bytes) × (NodePasses bytes at d ⊎ FlowPasses bytes at d)
  unfolding later_fault after
  fault_none e =
      let w = fault_passed plans bytes at d e in
      (w.0, w.1, kind (size_kinds (get_or bytes at 0) (omega (arith, w.0))) w.2)
    where
      kind : (get_or bytes at 0 ≡ 1) ⊎ (get_or bytes at 0 ≡ 2)
          → ◌≡◌ {A = ℕ} (cond (eqb (get_or bytes at 0) 1) (node_fault d (node_at bytes at)) (flow_fault d (flow_at bytes at))) 0
          → NodePasses bytes at d ⊎ FlowPasses bytes at d
      kind (inl one) f = inl (one, rw (eq-eqb _ _ one) at f, simp (eq-eqb _ _ one))
      kind (inr two) f =
          let n : eqb (get_or bytes at 0) 1 ≡ false = ne_eqb (get_or bytes at 0) 1 (omega arith) in inr (two, rw n at f, simp n)

  pub node_none : fault bytes at d ≡ 0 → get_or bytes at 0 ≡ 1 → NodePasses bytes at d
  node_none e t = elim (fault_none e).2 [ inl f ↦ f | inr f ↦ absurd (omega (arith, f.0)) ]

  pub flow_none : fault bytes at d ≡ 0 → (get_or bytes at 0 ≡ 1 → ⊥) → FlowPasses bytes at d
  flow_none e n = elim (fault_none e).2 [ inl f ↦ absurd (n f.0) | inr f ↦ f ]

  -- The bytes that are read of a command that passes.
  pub none_within : fault bytes at d ≡ 0 → at + 5 < length bytes
  none_within e =
      let w = fault_none e in
      elim w.2 [
        | inl f ↦ omega (arith, w.1, size_node (get_or bytes at 0) f.0)
        | inr f ↦ omega (arith, w.1, size_flow (get_or bytes at 0) f.0)
      ]

module _ (bytes : List ℕ) where
  pub decode_start : decode bytes ≡ read_on plans bytes 0 blank
  unfolding decode read_on
  decode_start = refl

  module _ (at : ℕ) (d : Draft) (h : at < length bytes) (t : get_or bytes at 0 ≡ 255 → ⊥) (e : fault bytes at d ≡ 0) where
    pub decode_node : get_or bytes at 0 ≡ 1 → (n : Node) → n ≡ node_at bytes at → (size : ℕ) → size ≡ size_of 1 → read_on plans bytes at d ≡ decode bytes
        → read_on plans bytes (at + size) (node_added d n) ≡ decode bytes
    decode_node one n q size z i = rw (z, ← one, q, ← (node_none bytes at d e one).2) (sym (read_go plans bytes at d h t e) ∙ i)

    pub decode_flow : (get_or bytes at 0 ≡ 1 → ⊥) → (f : Flow) → f ≡ flow_at bytes at → (size : ℕ) → size ≡ size_of 2 → read_on plans bytes at d ≡ decode bytes
        → read_on plans bytes (at + size) (flow_added d f) ≡ decode bytes
    decode_flow other f q size z i =
        let w = flow_none bytes at d e other in rw (z, ← w.0, q, ← w.2) (sym (read_go plans bytes at d h t e) ∙ i)
