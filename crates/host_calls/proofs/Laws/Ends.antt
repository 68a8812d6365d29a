-- What the calls answer has room, and what a start answers on a site that passes check 14.
use Prim.Native.Nat.{ℕ}
use mathlib.Core.Path.{◌≡◌, refl, sym, ap}
use mathlib.Core.Bool.{Bool, true, false, not, cond}
use mathlib.Core.List.{List}
use lib.Dec.{eqb, ltb}
use lib.ListN.{length}
use borrow.Author.Tests.{ltb-true}
use native.Mathlib.Omega.{arith}
use Rattle.rulings.specs.Outcome.{Ruling, accepted, refused}
use Rattle.lists.proofs.Laws.Search.{last_le}
use Rattle.site.specs.declared.Site.{Site}
use Rattle.site.specs.Sites.{used}
use Rattle.site_check.specs.Check.{passes_of}
use Rattle.counters.specs.Blocks.{zeros}
use Rattle.sender.specs.Sender.{child_sends, sending_child, lookup_of}
use Rattle.moves.specs.Hops.{Service}
use Rattle.slot_checks.specs.Checks.{first_overflow, first_unexpected, arrivals_ruling, advance_ruling}
use Rattle.moves.specs.Moves.{recounted, advance_of}
use Rattle.simulation.specs.Slot.{start_of}
use Rattle.simulation.proofs.Laws.Answers.{start_passes}
use Rattle.plan.proofs.Laws.Near.{near_accepted, near_check}
use Rattle.host_answers.specs.Answers.{told, valued, Tellable}
use Rattle.host_answers.proofs.Laws.Told.{told_value, tellable, Room, value_room, refusal_room}
use Rattle.host_answers.proofs.Laws.Calls.{unfaulted}
use Rattle.host_calls.specs.Calls.{answered}

advance_tellable : (s : Site) (counters arrivals : List ℕ) → Tellable (advance_ruling s counters arrivals)
unfolding advance_ruling arrivals_ruling
advance_tellable s counters arrivals =
    let over = first_overflow s counters arrivals in
    let stray = first_unexpected s arrivals in
    tellable _ (near_check 763 (not (eqb (length arrivals) 64)) 1 0 _ (omega arith) (λ e. omega arith)
    (near_check 763 (not (eqb (length counters) 576)) 1 0 _ (omega arith) (λ e. omega arith)
    (near_check 763 (ltb over 64) 19 over _ (omega arith) (λ e. omega (arith, ltb-true over 64 e))
    (near_check 763 (ltb stray 64) 20 stray _ (omega arith) (λ e. omega (arith, ltb-true stray 64 e)) (near_accepted 763 tt)))))

pub advanced_tellable : (v : Service) (s : Site) (counters arrivals : List ℕ) (t : ℕ) (r : Ruling) (ds : List ℕ)
    → (r, ds) ≡ advance_of v s counters arrivals t → Tellable r
unfolding advance_of recounted
advanced_tellable v s counters arrivals t r ds e = rw (ap (λ (q : Ruling × List ℕ). q.0) e) (advance_tellable s counters arrivals)

-- A child is one of the links.
pub lookup_room : (s : Site) (p t : ℕ) → Room (lookup_of s p t)
unfolding lookup_of sending_child used
lookup_room s p t = go (ltb s.links p)
  where
    go : (b : Bool) → Room (cond b (refused 6 0) (accepted (sending_child s p t)))
    go true = refusal_room 6 0 (omega arith) (omega arith)
    go false = value_room (sending_child s p t) (omega (arith, last_le (child_sends s p t) (used s.links)))

pub stands_started : (s : Site) → passes_of s ≡ true → (cs : List ℕ) → length cs ≡ 576 → (answer : ℕ) → answer ≡ 0
    → (ds : List ℕ) → ds ≡ zeros (length cs) → (told answer, ds) ≡ answered (start_of s cs)
unfolding answered valued
stands_started s sound cs counted answer z ds e =
    rw (z, told_value 0 (omega arith)) (ap answered (start_passes s cs 0 (sym (unfaulted s sound cs counted)) refl ds e counted))
