-- One law for each way that a check of a command or of END ends.
use Prim.Native.Nat.{ℕ, ◌+◌, ◌*◌, ◌≤◌, ◌<◌}
use mathlib.Core.Path.{◌≡◌, sym, ◌∙◌}
use mathlib.Core.Bool.{Bool, true, false}
use mathlib.Core.List.{List}
use lib.Dec.{ltb, leb}
use lib.ListN.{length, get_or}
use borrow.Author.Tests.{lt-ltb, le-leb, ltb-true, ltb-false, leb-false}
use native.Mathlib.Omega.{arith}
use Rattle.std.specs.List.{slice_range}
use Rattle.std.proofs.lemmas.Grind.{common_steps}
use Rattle.site.specs.declared.Flow.{Flow}
use Rattle.limits.specs.declared.Node.{Node}
use Rattle.limits.specs.Words.{NodeGood}
use Rattle.limits.proofs.Laws.Forms.{node_good, flow_good}
use Rattle.rulings.specs.Outcome.{accepted, refused}
use Rattle.rulings.proofs.Laws.Choices.{passed}
use Rattle.format.proofs.Laws.{number_one, number_two}
use Rattle.format.proofs.Laws.Reading.{ended_more, ended_last}
use Rattle.plan_commands.specs.Commands.{Draft, node_at, flow_at, node_fault, flow_fault, plans, fault}
use Rattle.plan_commands.specs.Inner.{more_behind, node_within, flow_within, fault_at}

-- What a NODE has that passes: no FLOW before it, room, and its limits.
pub node_passed : (d : Draft) (n : Node) → node_fault d n ≡ 0
    → (d.next ≡ 0) × (d.site.links < 63) × NodeGood d.site.parents d.site.links n
unfolding node_fault
node_passed d n e =
    let a = passed (ltb 0 d.next) 4 _ (omega arith) e in
    let b = passed (leb 63 d.site.links) 7 _ (omega arith) a.1 in
    let z : d.next ≤ 0 = ltb-false _ _ a.0 in
    (omega arith, leb-false _ _ b.0, (node_good d.site.parents d.site.links n).0 b.1)

-- A NODE that passes has room.
pub node_room : (d : Draft) (n : Node) → node_fault d n ≡ 0 → d.site.links < 63
node_room d n e = (node_passed d n e).1

-- A FLOW that passes has one of the 64 numbers, and none below the next.
pub flow_number : (d : Draft) (f : Flow) → flow_fault d f ≡ 0 → (f.number < 64) × (d.next ≤ f.number)
unfolding flow_fault
flow_number d f e = let w = (flow_good d.site.links d.next f).0 e in (omega (arith, w.within.number_most), w.number_least)

-- The operands of the command at index `at`.
module _ (bytes : List ℕ) (at : ℕ) where
  pub node_at_lem : (p c g : ℕ) → p ≡ get_or bytes (at + 1) 0 → c ≡ get_or bytes (at + 2) 0 + 256 * get_or bytes (at + 3) 0
      → g ≡ get_or bytes (at + 4) 0 + 256 * get_or bytes (at + 5) 0 → record { parent = p; capacity = c; gap = g } ≡ node_at bytes at
  unfolding node_at
  node_at_lem p c g ep ec eg =
      rw (number_one bytes (at + 1), number_two bytes (at + 2) (at + 3) (omega arith), number_two bytes (at + 4) (at + 5) (omega arith))
      (λ i. record { parent = ep i; capacity = ec i; gap = eg i })

  pub flow_at_lem : (n e r t : ℕ) → n ≡ get_or bytes (at + 1) 0 → e ≡ get_or bytes (at + 2) 0 → r ≡ get_or bytes (at + 3) 0
      → t ≡ get_or bytes (at + 4) 0 + 256 * get_or bytes (at + 5) 0 → record { number = n; entry = e; rate = r; deadline = t } ≡ flow_at bytes at
  unfolding flow_at
  flow_at_lem n e r t en ee er et =
      rw (number_one bytes (at + 1), number_one bytes (at + 2), number_one bytes (at + 3), number_two bytes (at + 4) (at + 5) (omega arith))
      (λ i. record { number = en i; entry = ee i; rate = er i; deadline = et i })

-- What END at index `at` comes to, by what was told of it.
module _ (size at : ℕ) (d : Draft) (t : Bool) (is : t ≡ more_behind size at) where
  pub end_more : t ≡ true → refused 10 (at + 1) ≡ plans.end size at d
  unfolding more_behind
  end_more e = sym (ended_more size at d.site (ltb-true _ _ (sym is ∙ e)))

  pub end_last : t ≡ false → accepted d.site ≡ plans.end size at d
  unfolding more_behind
  end_last e = sym (ended_last size at d.site (ltb-false _ _ (sym is ∙ e)))

-- Operands where all of their bytes are there.
module _ (bytes : List ℕ) (at : ℕ) where
  pub node_whole : at + 5 < length bytes → node_within bytes at ≡ node_at bytes at
  unfolding node_within
  node_whole l = simp (le-leb (at + 6) (length bytes) (omega arith))

  pub flow_whole : at + 5 < length bytes → flow_within bytes at ≡ flow_at bytes at
  unfolding flow_within
  flow_whole l = simp (le-leb (at + 6) (length bytes) (omega arith))

  -- The checks of what stands there are those of a command.
  pub fault_at_command : (d : Draft) → at < length bytes → fault_at bytes at d ≡ fault bytes at d
  unfolding fault_at
  fault_at_command d l = simp (lt-ltb _ _ l)

-- The operands by what stands from index `at` on, all of them being there.
module _ (bytes : List ℕ) (at : ℕ) (left : List ℕ) (is : left ≡ slice_range bytes at (length bytes)) (whole : at + 6 ≤ length bytes) where
  behind : (i : ℕ) → i < 6 → get_or left i 0 ≡ get_or bytes (at + i) 0
  behind i l = rw is (grind (arith, common_steps))

  pub node_left : (c g : ℕ) → c ≡ get_or left 2 0 + 256 * get_or left 3 0 → g ≡ get_or left 4 0 + 256 * get_or left 5 0
      → record { parent = get_or left 1 0; capacity = c; gap = g } ≡ node_within bytes at
  node_left c g ec eg =
      node_at_lem bytes at _ _ _ (behind 1 (omega arith)) (rw (← behind 2 (omega arith), ← behind 3 (omega arith)) ec) (rw (← behind 4 (omega arith), ← behind 5 (omega arith)) eg)
      ∙ sym (node_whole bytes at (omega arith))

  pub flow_left : (t : ℕ) → t ≡ get_or left 4 0 + 256 * get_or left 5 0
      → record { number = get_or left 1 0; entry = get_or left 2 0; rate = get_or left 3 0; deadline = t } ≡ flow_within bytes at
  flow_left t et =
      flow_at_lem bytes at _ _ _ _ (behind 1 (omega arith)) (behind 2 (omega arith)) (behind 3 (omega arith)) (rw (← behind 4 (omega arith), ← behind 5 (omega arith)) et)
      ∙ sym (flow_whole bytes at (omega arith))
