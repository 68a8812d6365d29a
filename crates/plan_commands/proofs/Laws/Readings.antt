-- How far the reading of a plan can come, and that its first 1,024 bytes settle it.
use Prim.Native.Nat.{ℕ, ◌+◌, ◌*◌, ◌≤◌, ◌<◌}
use mathlib.Core.Path.{◌≡◌, refl, sym, ◌∙◌}
use mathlib.Core.List.{List}
use mathlib.Core.Logic.{inl, inr}
use lib.ListN.{get_or, take}
use native.Mathlib.Omega.{arith}
use Rattle.site.specs.declared.Flow.{Flow}
use Rattle.site.specs.Sites.{with_flow}
use Rattle.format.specs.Commands.{size_of}
use Rattle.format.proofs.Laws.{size_most}
use Rattle.format.proofs.Laws.Reading.{ended_alike, Agreeing, Settled, read_first}
use Rattle.limits.specs.declared.Node.{Node}
use Rattle.plan_commands.specs.Commands.{Draft, node_at, flow_at, node_fault, flow_fault, later_fault, with_node, node_added, flow_added, after, plans, fault, blank}
use Rattle.plan_commands.specs.Commands.{decode}
use Rattle.plan_commands.proofs.Laws.Commands.{node_room, flow_number, node_at_lem, flow_at_lem}
use Rattle.plan_commands.proofs.Laws.Decode.{fault_none}

-- How far a reading can come: a NODE makes one of at most 63 links, and a FLOW raises the next number, at most 64.
record Within (at : ℕ) (d : Draft) : Type 0 where
  place : at ≤ size_of 1 * d.site.links + size_of 2 * d.next
  few : d.site.links ≤ 63
  low : d.next ≤ 64

within_start : Within 0 blank
within_start = record { place = omega arith; few = omega arith; low = omega arith }

-- So a command begins at index 762 at most.
within_most : (at : ℕ) (d : Draft) → Within at d → at ≤ 762
unfolding size_of
within_most at d w = omega (arith, w.place, w.few, w.low)

within_node : (at : ℕ) (d : Draft) (n : Node) → Within at d → node_fault d n ≡ 0 → Within (at + size_of 1) (node_added d n)
unfolding node_added with_node size_of
within_node at d n w e =
    let room = node_room d n e in record { place = omega (arith, w.place); few = omega arith; low = w.low }

within_flow : (at : ℕ) (d : Draft) (f : Flow) → Within at d → flow_fault d f ≡ 0 → Within (at + size_of 2) (flow_added d f)
unfolding flow_added with_flow size_of
within_flow at d f w e =
    let number = flow_number d f e in
    record { place = omega (arith, w.place, number.1); few = w.few; low = omega (arith, number.0) }

within_more : (bytes : List ℕ) (at : ℕ) (d : Draft) → Within at d → fault bytes at d ≡ 0
    → Within (at + size_of (get_or bytes at 0)) (after bytes at d)
within_more bytes at d w e =
    elim (fault_none bytes at d e).2 [
      | inl f ↦ rw (f.2, f.0) (within_node at d (node_at bytes at) w f.1)
      | inr f ↦ rw (f.2, f.0) (within_flow at d (flow_at bytes at) w f.1)
    ]

-- The operands of a command, by the bytes.
module _ (xs ys : List ℕ) (w : Agreeing xs ys) (at : ℕ) (room : at + 5 < 1024) where
  node_alike : node_at xs at ≡ node_at ys at
  node_alike = sym (node_at_lem xs at _ _ _ refl refl refl)
      ∙ node_at_lem ys at _ _ _ (w.same (at + 1) (omega arith))
      (rw (w.same (at + 2) (omega arith), w.same (at + 3) (omega arith)))
      (rw (w.same (at + 4) (omega arith), w.same (at + 5) (omega arith)))

  flow_alike : flow_at xs at ≡ flow_at ys at
  flow_alike = sym (flow_at_lem xs at _ _ _ _ refl refl refl refl)
      ∙ flow_at_lem ys at _ _ _ _ (w.same (at + 1) (omega arith)) (w.same (at + 2) (omega arith)) (w.same (at + 3) (omega arith))
      (rw (w.same (at + 4) (omega arith), w.same (at + 5) (omega arith)))

  later_alike : (d : Draft) → later_fault xs at d ≡ later_fault ys at d
  unfolding later_fault
  later_alike d = rw (w.same at (omega arith), node_alike, flow_alike)

  after_alike : (d : Draft) → after xs at d ≡ after ys at d
  unfolding after
  after_alike d = rw (w.same at (omega arith), node_alike, flow_alike)

settled : Settled plans Within
settled = record {
  most = within_most;
  short = size_most;
  kept = within_more;
  later_alike = later_alike;
  after_alike = after_alike;
  end_alike = λ m n at l k d. ended_alike m n at l k d.site;
}

-- The first 1,024 bytes settle every reading.
pub decode_first : (bytes : List ℕ) (n : ℕ) → 1024 ≤ n → decode (take n bytes) ≡ decode bytes
unfolding decode
decode_first bytes n h = read_first plans Within settled blank within_start bytes n h
