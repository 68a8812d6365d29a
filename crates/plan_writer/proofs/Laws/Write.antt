-- What the writer of plans stores, node after node and flow after flow.
use Prim.Native.Nat.{ℕ, zero, suc, ◌+◌, ◌*◌, ◌≤◌, ◌<◌}
use mathlib.Core.Path.{◌≡◌, refl, sym, ◌∙◌, ap}
use mathlib.Core.Bool.{Bool, true, false, cond}
use mathlib.Core.List.{List, [], ◌∷◌, ◌++◌}
use lib.ListN.{length, get_or, set, length-append}
use lib.Seq.{sets}
use borrow.Author.Tests.{ne_eqb}
use native.Mathlib.Numerals.{add-one}
use native.Mathlib.Nat.{zero-add, mul-add}
use native.Mathlib.Omega.{arith}
use Rattle.site.specs.declared.Site.{Site}
use Rattle.site.specs.Sites.{live, flow_count}
use Rattle.site.proofs.Laws.Flows.{flows_few}
use Rattle.format.specs.Bytes.{bytes_of}
use Rattle.format.specs.Commands.{size_of}
use Rattle.plan_writer.specs.Write.{node_command, node_bytes, flow_command, flow_bytes, flow_if_live, command_bytes, plan_bytes}
use Rattle.lists.specs.Lists.{joined, sum_to}
use Rattle.lists.proofs.Laws.Items.{joined_more}
use Rattle.slices.specs.Put.{put}
use Rattle.slices.proofs.Laws.Put.{put_room, put_sets}
use Rattle.slices.proofs.Laws.Stores.{sets_append, Stored, stored_more, stored_room, sized_each}

-- A command of the own entries of a site or a schedule.
pub node_made : (s : Site) (i : ℕ) → node_command (get_or s.parents i 0) (get_or s.capacities i 0) (get_or s.gaps i 0) ≡ node_bytes s i
unfolding node_bytes
node_made s i = refl

pub flow_made : (s : Site) (n : ℕ) → flow_command n (get_or s.entries n 0) (get_or s.rates n 0) (get_or s.deadlines n 0) ≡ flow_bytes s n
unfolding flow_bytes
flow_made s n = refl

-- Each command takes the bytes of its size.
pub node_size : (s : Site) (i : ℕ) → length (node_bytes s i) ≡ size_of 1
unfolding node_bytes bytes_of size_of
node_size s i = refl

pub flow_size : (s : Site) (n : ℕ) → length (flow_bytes s n) ≡ size_of 2
unfolding flow_bytes bytes_of size_of
flow_size s n = refl

-- The bytes of a flow where it is live; a number that is not has none.
module _ (s : Site) (n : ℕ) where
  pub live_bytes : get_or s.states n 0 ≡ 1 → flow_bytes s n ≡ flow_if_live s n
  unfolding flow_if_live live
  live_bytes e = simp e

  pub idle_bytes : (get_or s.states n 0 ≡ 1 → ⊥) → [] ≡ flow_if_live s n
  unfolding flow_if_live live
  idle_bytes e = simp (ne_eqb _ _ e)

-- The flows below a number take a FLOW each that is live.
pub flows_below : (s : Site) (n : ℕ) → length (joined (flow_if_live s) n 0) ≡ size_of 2 * sum_to (λ m. cond (live s m) 1 0) n
unfolding joined sum_to flow_if_live
flows_below s zero = omega arith
flows_below s (suc n) =
    ap (λ (k : ℕ). length (joined (flow_if_live s) k 0)) (sym (add-one n)) ∙ ap length (joined_more (flow_if_live s) n)
    ∙ length-append (joined (flow_if_live s) n 0) (flow_if_live s n) ∙ go (live s n) refl (flows_below s n)
  where
    go : (t : Bool) → live s n ≡ t → length (joined (flow_if_live s) n 0) ≡ size_of 2 * sum_to (λ m. cond (live s m) 1 0) n
        → length (joined (flow_if_live s) n 0) + length (flow_if_live s n) ≡ size_of 2 * (sum_to (λ m. cond (live s m) 1 0) n + cond (live s n) 1 0)
    go true e below = rw (below, e, flow_size s n, mul-add) (omega arith)
    go false e below = rw (below, e, mul-add) (omega arith)

-- The next item, put where the ones before it end.
module _ (bytes : ℕ → List ℕ) (n start : ℕ) (d : List ℕ) (room : start + length (joined bytes n 0) ≤ length d) where
  pub stored_sized : (i at : ℕ) (out : List ℕ) → Stored bytes n start d i at out → i < n → (b : List ℕ) → b ≡ bytes i
      → (r : ℕ) (new : List ℕ) → (r, new) ≡ put (at, out) b → (m : ℕ) → m ≡ at + length b → Stored bytes n start d (i + 1) m new
  stored_sized i at out s l b e r new q m k =
      let fits : at + length b ≤ length out = omega (arith, s.long, stored_room bytes n start d i at out s b l e) in
      stored_more bytes n start d i at out s b new m l e (put_sets at r out b new fits q) k

  pub stored_put : (i at : ℕ) (out : List ℕ) → Stored bytes n start d i at out → i < n → (b : List ℕ) → b ≡ bytes i
      → (m : ℕ) (new : List ℕ) → (m, new) ≡ put (at, out) b → Stored bytes n start d (i + 1) m new
  stored_put i at out s l b e m new q =
      let fits : at + length b ≤ length out = omega (arith, s.long, stored_room bytes n start d i at out s b l e) in
      stored_sized i at out s l b e m new q m (ap (λ (p : ℕ × List ℕ). p.0) (q ∙ put_room at out b fits))

  -- A number that has no bytes is passed by.
  pub stored_none : (i at : ℕ) (out : List ℕ) → Stored bytes n start d i at out → i < n → [] ≡ bytes i → Stored bytes n start d (i + 1) at out
  stored_none i at out s l e = stored_more bytes n start d i at out s [] out at l e refl (omega arith)

-- A plan: nodes, flows, FF.
module _ (s : Site) where
  abbrev nodes : List ℕ
  nodes = joined (node_bytes s) s.links 0

  abbrev flows : List ℕ
  flows = joined (flow_if_live s) 64 0

  pub plan_length : length (plan_bytes s) ≡ length nodes + length flows + 1
  unfolding plan_bytes command_bytes
  plan_length = simp length-append

  -- m stands for the size of a NODE.
  pub nodes_size : (m : ℕ) → m ≡ size_of 1 → m * s.links ≡ length nodes
  nodes_size m is = rw is (sym (sized_each (node_bytes s) (size_of 1) (node_size s) s.links 0))

  -- So the plan has as many bytes as its commands take together, and END.
  pub plan_sized : length (plan_bytes s) ≡ size_of 1 * s.links + size_of 2 * flow_count s + 1
  unfolding flow_count
  plan_sized = omega (arith, plan_length, nodes_size (size_of 1) refl, flows_below s 64)

  pub plan_most : s.links ≤ 63 → length (plan_bytes s) ≤ 763
  unfolding size_of
  plan_most few = omega (arith, plan_sized, flows_few s)

  pub plan_stored : (out a b : List ℕ) (start end : ℕ) → a ≡ sets out 0 nodes → start ≡ length nodes → b ≡ sets a start flows
      → end ≡ start + length flows → set b end 255 ≡ sets out 0 (plan_bytes s)
  unfolding plan_bytes command_bytes
  plan_stored out a b start end p n q e =
      let k : end ≡ length (nodes ++ flows) = simp length-append (omega arith) in
      rw (sets_append out 0 (nodes ++ flows) (255 ∷ []), sets_append out 0 nodes flows, zero-add (length nodes), zero-add (length (nodes ++ flows)), ← p, ← n, ← q, ← k)
