-- What the writers of schedules store, link after link.
use Prim.Native.Nat.{ℕ, ◌+◌, ◌*◌, ◌≤◌}
use mathlib.Core.Path.{◌≡◌, refl, sym, ◌∙◌}
use mathlib.Core.List.{List, [], ◌∷◌, ◌++◌}
use lib.ListN.{length, get_or, drop, set, length-append}
use lib.Seq.{sets, sets-eq}
use native.Mathlib.Nat.{zero-add}
use native.Mathlib.Omega.{arith}
use Rattle.format.specs.Bytes.{bytes_of}
use Rattle.format.specs.Commands.{schedule_size}
use Rattle.schedule_check.specs.declared.Schedule.{Schedule}
use Rattle.schedule_writer.specs.Write.{link_command, link_bytes, schedule_bytes}
use Rattle.lists.specs.Lists.{joined}
use Rattle.slices.proofs.Laws.Stores.{sets_append, sized_each}

pub link_made : (s : Schedule) (i : ℕ) → link_command (i + 1) (get_or s.offsets i 0) (get_or s.periods i 0) ≡ link_bytes s i
unfolding link_bytes
link_made s i = refl

pub link_size : (s : Schedule) (i : ℕ) → length (link_bytes s i) ≡ schedule_size 17
unfolding link_bytes bytes_of schedule_size
link_size s i = refl

-- How many bytes links and a schedule take. m stands for the size of a LINK.
module _ (s : Schedule) (m : ℕ) (is : m ≡ schedule_size 17) where
  pub links_few : s.links ≤ 63 → m * s.links ≤ 378
  unfolding schedule_size
  links_few few = rw is (omega arith)

  pub links_size : m * s.links ≡ length (joined (link_bytes s) s.links 0)
  links_size = rw is (sym (sized_each (link_bytes s) (schedule_size 17) (link_size s) s.links 0))

  pub schedule_size_lem : m * s.links + 1 ≡ length (schedule_bytes s)
  unfolding schedule_bytes
  schedule_size_lem = simp (length-append, ← links_size)

-- A schedule: links, FF.
module _ (s : Schedule) where
  pub links_long : length (joined (link_bytes s) s.links 0) ≡ 6 * s.links
  unfolding schedule_size
  links_long = sym (links_size s 6 refl)

  pub schedule_long : length (schedule_bytes s) ≡ 6 * s.links + 1
  unfolding schedule_size
  schedule_long = sym (schedule_size_lem s 6 refl)

  pub schedule_sets : (out a : List ℕ) (end : ℕ) → a ≡ sets out 0 (joined (link_bytes s) s.links 0)
      → end ≡ length (joined (link_bytes s) s.links 0) → set a end 255 ≡ sets out 0 (schedule_bytes s)
  unfolding schedule_bytes
  schedule_sets out a end p e = rw (sets_append out 0 (joined (link_bytes s) s.links 0) (255 ∷ []), zero-add, ← p, ← e)

  pub schedule_stored : (out a : List ℕ) (end : ℕ) → 6 * s.links + 1 ≤ length out → a ≡ sets out 0 (joined (link_bytes s) s.links 0) → end ≡ 6 * s.links
      → set a end 255 ≡ schedule_bytes s ++ drop (6 * s.links + 1) out
  schedule_stored out a end room p e =
      let long : 0 + length (schedule_bytes s) ≡ 6 * s.links + 1 = omega (arith, schedule_long) in
      schedule_sets out a end p (e ∙ sym links_long) ∙ sets-eq (schedule_bytes s) out 0 (omega arith) ∙ rw long
