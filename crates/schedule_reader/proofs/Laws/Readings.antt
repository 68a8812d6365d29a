-- How far the reading of a schedule can come, and that its first 1,024 bytes settle it.
use Prim.Native.Nat.{ℕ, ◌+◌, ◌*◌, ◌≤◌, ◌<◌}
use mathlib.Core.Path.{◌≡◌, refl, sym, ◌∙◌}
use mathlib.Core.Bool.{Bool, true, false, cond}
use mathlib.Core.List.{List}
use lib.Dec.{eqb}
use lib.ListN.{length, get_or, take}
use borrow.Author.Tests.{eqb-true, eqb-false}
use native.Mathlib.Omega.{arith}
use Rattle.rulings.specs.Outcome.{accepted, refused}
use Rattle.rulings.proofs.Laws.Outcomes.{refused_not}
use Rattle.format.specs.Commands.{schedule_size}
use Rattle.format.proofs.Laws.{link_most, size_kind}
use Rattle.format.proofs.Laws.Reading.{read_on, read_stop, read_go, fault_passed, ended_alike, Agreeing, Settled, read_first}
use Rattle.schedule_reader.specs.declared.Link.{Link}
use Rattle.schedule_check.specs.declared.Schedule.{Schedule}
use Rattle.schedule_check.specs.Schedules.{without_links}
use Rattle.schedule_reader.specs.Read.{link_at, link_added, schedules, schedule_fault, next_link, schedule_read}
use Rattle.schedule_reader.proofs.Laws.Commands.{link_passed, link_at_lem}

pub schedule_start : (bytes : List ℕ) → schedule_read bytes ≡ read_on schedules bytes 0 without_links
unfolding schedule_read read_on
schedule_start bytes = refl

-- What a turn of the reading makes of the command at an index that is not END.
module _ (bytes : List ℕ) (at : ℕ) (s : Schedule) (here : at < length bytes) (more : get_or bytes at 0 ≡ 255 → ⊥) where
  pub link_refused : (number place : ℕ) → refused number place ≡ next_link bytes at s → read_on schedules bytes at s ≡ refused number place
  link_refused number place e = go (eqb (schedule_fault bytes at s) 0) refl e
    where
      go : (t : Bool) → eqb (schedule_fault bytes at s) 0 ≡ t
          → refused number place ≡ cond t (accepted (link_at bytes at)) (refused (schedule_fault bytes at s) at)
          → read_on schedules bytes at s ≡ refused number place
      go true q e = absurd (refused_not _ refl e)
      go false q e =
          let n : number ≡ schedule_fault bytes at s = cc in
          let p : place ≡ at = cc in
          rw (n, p) (read_stop schedules bytes at s here more (eqb-false _ _ q))

  -- A command that passes is a LINK, and behind it the reading goes on.
  pub link_taken : (l : Link) (size : ℕ) → accepted l ≡ next_link bytes at s → size ≡ schedule_size 17
      → read_on schedules bytes at s ≡ read_on schedules bytes (at + size) (link_added s l)
  link_taken l size e n = go (eqb (schedule_fault bytes at s) 0) refl e
    where
      go : (t : Bool) → eqb (schedule_fault bytes at s) 0 ≡ t
          → accepted l ≡ cond t (accepted (link_at bytes at)) (refused (schedule_fault bytes at s) at)
          → read_on schedules bytes at s ≡ read_on schedules bytes (at + size) (link_added s l)
      go true q e =
          let none : schedule_fault bytes at s ≡ 0 = eqb-true _ _ q in
          let tag : get_or bytes at 0 ≡ 17 = size_kind _ (omega (arith, (fault_passed schedules bytes at s none).0)) in
          let is : l ≡ link_at bytes at = cc in
          rw (is, n, ← tag) (read_go schedules bytes at s here more none)
      go false q e = absurd (refused_not _ e refl)

-- How far a reading can come: a LINK makes one of at most 63 links.
record Within (at : ℕ) (s : Schedule) : Type 0 where
  place : at ≤ 6 * s.links
  few : s.links ≤ 63

within_more : (bytes : List ℕ) (at : ℕ) (s : Schedule) → Within at s → schedule_fault bytes at s ≡ 0
    → Within (at + schedule_size (get_or bytes at 0)) (link_added s (link_at bytes at))
unfolding link_added
within_more bytes at s w e =
    let size = link_most (get_or bytes at 0) in
    let room = (link_passed s.links (link_at bytes at) (fault_passed schedules bytes at s e).2).0 in
    record { place = omega (arith, w.place); few = omega arith }

link_alike : (xs ys : List ℕ) → Agreeing xs ys → (at : ℕ) → at + 5 < 1024 → link_at xs at ≡ link_at ys at
link_alike xs ys w at room = sym (link_at_lem xs at _ _ _ refl refl refl)
    ∙ link_at_lem ys at _ _ _ (w.same (at + 1) (omega arith))
    (rw (w.same (at + 2) (omega arith), w.same (at + 3) (omega arith)))
    (rw (w.same (at + 4) (omega arith), w.same (at + 5) (omega arith)))

settled : Settled schedules Within
settled = record {
  most = λ at s w. omega (arith, w.place, w.few);
  short = link_most;
  kept = within_more;
  later_alike = λ xs ys w at room s. rw (link_alike xs ys w at room);
  after_alike = λ xs ys w at room s. rw (link_alike xs ys w at room);
  end_alike = ended_alike;
}

pub schedule_settled : (bytes : List ℕ) (n : ℕ) → 1024 ≤ n → schedule_read (take n bytes) ≡ schedule_read bytes
unfolding schedule_read
schedule_settled bytes n h = read_first schedules Within settled without_links (record { place = omega arith; few = omega arith }) bytes n h
