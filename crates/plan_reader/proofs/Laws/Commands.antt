-- What the form of a plan's bytes comes to once it is judged, and what a command has that passes its checks.
use Prim.Native.Nat.{ℕ, ◌+◌, ◌≤◌, ◌<◌}
use mathlib.Core.Path.{◌≡◌, sym, ◌∙◌, ap}
use mathlib.Core.List.{List}
use lib.ListN.{length, get_or}
use Rattle.rulings.specs.Outcome.{refused, accepted}
use Rattle.site.specs.declared.Site.{Site}
use Rattle.site.specs.declared.Flow.{Flow}
use Rattle.limits.specs.declared.Node.{Node}
use Rattle.judgement.specs.Judge.{judge_of}
use Rattle.format.specs.Commands.{size_of}
use Rattle.format.proofs.Laws.Reading.{read_on}
use Rattle.plan_commands.specs.Commands.{Draft, plans, fault, node_added, flow_added, decode}
use Rattle.plan_commands.specs.Inner.{node_within, flow_within, fault_at}
use Rattle.plan_commands.proofs.Laws.Commands.{node_room, flow_number, node_whole, flow_whole, fault_at_command}
use Rattle.plan_commands.proofs.Laws.Decode.{fault_none, decode_node, decode_flow, none_within, node_none, flow_none}
use Rattle.plan_reader.specs.Read.{judge_form, read_of}

-- A form that is refused is the answer, and one that is accepted is judged.
module _ (bytes : List ℕ) where
  pub refused_form : (number place : ℕ) → refused number place ≡ decode bytes → refused number place ≡ read_of bytes
  unfolding read_of judge_form
  refused_form number place e = ap judge_form e

  pub accepted_form : (s : Site) → accepted s ≡ decode bytes → judge_of s ≡ read_of bytes
  unfolding read_of judge_form
  accepted_form s e = ap judge_form e

-- A command at index `at` that passes its checks.
module _ (bytes : List ℕ) (at : ℕ) (d : Draft) (l : at < length bytes) (passes : 0 ≡ fault_at bytes at d) where
  none : fault bytes at d ≡ 0
  none = sym (passes ∙ fault_at_command bytes at d l)

  -- It lies within the bytes.
  pub size_fits : (m : ℕ) → m ≡ size_of (get_or bytes at 0) → (1 ≤ m) × (at + m ≤ length bytes)
  size_fits m is = let w = fault_none bytes at d none in (rw is w.0, rw is w.1)

  -- There is room for a NODE, and a FLOW has one of the 64 numbers.
  pub node_fits : get_or bytes at 0 ≡ 1 → d.site.links < 63
  node_fits one = node_room _ _ (node_none bytes at d none one).1

  pub flow_fits : (get_or bytes at 0 ≡ 1 → ⊥) → (f : Flow) → f ≡ flow_within bytes at → f.number < 64
  flow_fits other f q = rw (q ∙ flow_whole bytes at (none_within bytes at d none)) (flow_number _ _ (flow_none bytes at d none other).1).0

  -- Each of the two goes on by its own size.
  pub node_goes : get_or bytes at 0 ≡ 1 → (m : ℕ) → m ≡ size_of 1 → m ≡ size_of (get_or bytes at 0)
  node_goes one m is = rw one is

  pub flow_goes : (get_or bytes at 0 ≡ 1 → ⊥) → (m : ℕ) → m ≡ size_of 2 → m ≡ size_of (get_or bytes at 0)
  flow_goes other m is = rw (flow_none bytes at d none other).0 is

  -- The reading goes on behind it with what it adds.
  module _ (going : get_or bytes at 0 ≡ 255 → ⊥) (reads : read_on plans bytes at d ≡ decode bytes) (m : ℕ) (is : m ≡ size_of (get_or bytes at 0)) where
    pub node_read : get_or bytes at 0 ≡ 1 → (n : Node) → n ≡ node_within bytes at → read_on plans bytes (at + m) (node_added d n) ≡ decode bytes
    node_read one n q =
        decode_node bytes at d l going none one n (q ∙ node_whole bytes at (none_within bytes at d none)) m (rw one at is) reads

    pub flow_read : (get_or bytes at 0 ≡ 1 → ⊥) → (f : Flow) → f ≡ flow_within bytes at → read_on plans bytes (at + m) (flow_added d f) ≡ decode bytes
    flow_read other f q =
        decode_flow bytes at d l going none other f (q ∙ flow_whole bytes at (none_within bytes at d none)) m
        (rw (flow_none bytes at d none other).0 at is) reads
