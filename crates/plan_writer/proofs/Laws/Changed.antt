-- The plan of a site with a flow more or a flow less: it is the old plan with the six bytes of that FLOW put in or left out at their place.
use Prim.Native.Nat.{ℕ, ◌+◌, ◌-◌, ◌*◌, ◌≤◌}
use mathlib.Core.Path.{◌≡◌, ◌∙◌, ap}
use mathlib.Core.Bool.{true, false}
use mathlib.Core.List.{◌++◌, append_assoc}
use lib.ListN.{length, take, drop, length-append}
use lib.Seq.{get_or-set_same, get_or-set_other, take-append_seam, drop-append_seam, drop-append-add, drop_at}
use native.Mathlib.Omega.{arith}
use Rattle.site.specs.declared.Site.{Site}
use Rattle.site.specs.declared.Flow.{Flow}
use Rattle.site.specs.Sites.{live, with_fields, with_flow, without_flow}
use Rattle.site.proofs.Laws.Flows.{live_here, live_with, Counted}
use Rattle.site_check.specs.Words.{Shape}
use Rattle.format.specs.Bytes.{bytes_of}
use Rattle.format.specs.Commands.{size_of}
use Rattle.lists.specs.Lists.{joined}
use Rattle.lists.proofs.Laws.Items.{joined_at, joined_same}
use Rattle.plan_writer.specs.Write.{node_bytes, flow_command, flow_bytes, flow_if_live, command_bytes, plan_bytes, bytes_before, bytes_behind, flow_place}
use Rattle.plan_writer.proofs.Laws.Write.{nodes_size, flow_size, flows_below}

-- The bytes of the plan, taken apart at number n.
pub plan_parts : (s : Site) (n : ℕ) → n ≤ 63 → plan_bytes s ≡ bytes_before s n ++ (flow_if_live s n ++ bytes_behind s n)
unfolding plan_bytes command_bytes
plan_parts s n few =
    let rest : 64 - (n + 1) ≡ 63 - n = omega arith in
    rw (joined_at (flow_if_live s) 64 n (omega arith), rest) (simp append_assoc)

-- Other fields at number n: its own bytes may change, and every other command is as it was.
module _ (s : Site) (n state entry rate deadline : ℕ) where
  other : (k : ℕ) → (k ≡ n → ⊥) → flow_if_live (with_fields s n state entry rate deadline) k ≡ flow_if_live s k
  unfolding flow_if_live flow_bytes live
  other k d = rw (
    get_or-set_other s.states n k state 0 d,
    get_or-set_other s.entries n k entry 0 d,
    get_or-set_other s.rates n k rate 0 d,
    get_or-set_other s.deadlines n k deadline 0 d,
  )

  changed : n ≤ 63 → plan_bytes (with_fields s n state entry rate deadline)
      ≡ bytes_before s n ++ (flow_if_live (with_fields s n state entry rate deadline) n ++ bytes_behind s n)
  unfolding node_bytes
  changed few =
      plan_parts (with_fields s n state entry rate deadline) n few
      ∙ rw (
        joined_same (flow_if_live (with_fields s n state entry rate deadline)) (flow_if_live s) n 0 (λ k lo hi. other k (omega arith)),
        joined_same (flow_if_live (with_fields s n state entry rate deadline)) (flow_if_live s) (63 - n) (n + 1) (λ k lo hi. other k (omega arith)),
      )

-- The place of a number is in the plan, and that of a live one with all bytes of its FLOW.
module _ (s : Site) (n : ℕ) (few : n ≤ 63) where
  sizes : length (plan_bytes s) ≡ flow_place s n + (length (flow_if_live s n) + length (bytes_behind s n))
  unfolding flow_place
  sizes = ap length (plan_parts s n few) ∙ rw (length-append (bytes_before s n) (flow_if_live s n ++ bytes_behind s n), length-append (flow_if_live s n) (bytes_behind s n))

  pub place_within : flow_place s n ≤ length (plan_bytes s)
  place_within = omega (arith, sizes)

  pub place_live : live s n ≡ true → flow_place s n + size_of 2 ≤ length (plan_bytes s)
  unfolding flow_if_live
  place_live living = omega (arith, rw living at sizes, flow_size s n)

-- The plan of the site with flow f has its FLOW between what was before and behind that number, and the plan of the site without flow n has nothing there.
module _ (s : Site) (shape : Shape s) where
  flow_put : (f : Flow) → f.number ≤ 63 → flow_bytes (with_flow s f) f.number ≡ flow_command f.number f.entry f.rate f.deadline
  unfolding flow_bytes with_flow
  flow_put f few = rw (
    get_or-set_same s.entries f.number f.entry 0 (omega (arith, shape.entries)),
    get_or-set_same s.rates f.number f.rate 0 (omega (arith, shape.rates)),
    get_or-set_same s.deadlines f.number f.deadline 0 (omega (arith, shape.deadlines)),
  )

  plan_with : (f : Flow) → f.number ≤ 63
      → plan_bytes (with_flow s f) ≡ bytes_before s f.number ++ (flow_command f.number f.entry f.rate f.deadline ++ bytes_behind s f.number)
  unfolding with_flow flow_if_live
  plan_with f few = changed s f.number 1 f.entry f.rate f.deadline few ∙ rw (live_with s f (omega (arith, shape.states)), flow_put f few)

  pub plan_without : (n : ℕ) → n ≤ 63 → plan_bytes (without_flow s n) ≡ bytes_before s n ++ bytes_behind s n
  unfolding without_flow flow_if_live
  plan_without n few = changed s n 0 0 0 0 few ∙ rw (live_here s n 0 0 0 0 (omega (arith, shape.states)))

  -- So the one has the bytes of a FLOW more than the old plan, and the other as many less.
  pub size_with : (f : Flow) → f.number ≤ 63 → live s f.number ≡ false → length (plan_bytes (with_flow s f)) ≡ length (plan_bytes s) + size_of 2
  unfolding flow_place flow_if_live bytes_of size_of
  size_with f few free =
      ap length (plan_with f few)
      ∙ rw (
        length-append (bytes_before s f.number) (flow_command f.number f.entry f.rate f.deadline ++ bytes_behind s f.number),
        sizes s f.number few,
        free,
      ) (omega arith)

  pub size_without : (n : ℕ) → n ≤ 63 → live s n ≡ true → length (plan_bytes (without_flow s n)) + size_of 2 ≡ length (plan_bytes s)
  unfolding flow_place flow_if_live
  size_without n few living =
      rw (plan_without n few, length-append (bytes_before s n) (bytes_behind s n), sizes s n few, living, flow_size s n) (omega arith)

  -- The one is the old plan with the bytes of that FLOW put in at its place, and the other the old plan without the bytes there.
  pub plan_with_flow : (f : Flow) → f.number ≤ 63 → live s f.number ≡ false
      → plan_bytes (with_flow s f) ≡ take (flow_place s f.number) (plan_bytes s)
      ++ (flow_command f.number f.entry f.rate f.deadline ++ drop (flow_place s f.number) (plan_bytes s))
  unfolding flow_place flow_if_live
  plan_with_flow f few free =
      let old : plan_bytes s ≡ bytes_before s f.number ++ bytes_behind s f.number = plan_parts s f.number few ∙ rw free in
      plan_with f few
      ∙ rw (old, take-append_seam (bytes_before s f.number), drop-append_seam (bytes_before s f.number))

  pub plan_without_flow : (n : ℕ) → n ≤ 63 → live s n ≡ true
      → plan_bytes (without_flow s n) ≡ take (flow_place s n) (plan_bytes s) ++ drop (flow_place s n + size_of 2) (plan_bytes s)
  unfolding flow_place flow_if_live
  plan_without_flow n few living =
      let old : plan_bytes s ≡ bytes_before s n ++ (flow_bytes s n ++ bytes_behind s n) = plan_parts s n few ∙ rw living in
      let behind : drop (size_of 2) (flow_bytes s n ++ bytes_behind s n) ≡ bytes_behind s n = drop_at (flow_bytes s n) (bytes_behind s n) (size_of 2) (flow_size s n) in
      plan_without n few
      ∙ rw (old, take-append_seam (bytes_before s n), drop-append-add (bytes_before s n), behind)

-- The place of a number goes by the links and the live flows below: node and flow stand for the sizes of the two commands.
pub place_counted : (s : Site) (n count node flow : ℕ) → node ≡ size_of 1 → flow ≡ size_of 2 → Counted s n count → node * s.links + flow * count ≡ flow_place s n
unfolding flow_place
place_counted s n count node flow p q c =
    rw (length-append (joined (node_bytes s) s.links 0) (joined (flow_if_live s) n 0), ← nodes_size s node p, flows_below s n, q, c.is)
