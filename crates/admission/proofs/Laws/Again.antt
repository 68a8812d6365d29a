-- A flow that is let go finds its place again: nothing of what it kept is left, and what the others keep is as it was.
use Prim.Native.Nat.{ℕ, ◌+◌, ◌≤◌, ◌<◌}
use mathlib.Core.Path.{◌≡◌, refl, ◌∙◌}
use mathlib.Core.Bool.{true}
use mathlib.Core.List.{List}
use lib.ListN.{length, get_or, set}
use lib.Seq.{set-set, set-get_or}
use borrow.Author.Tests.{eqb-true}
use native.Mathlib.Omega.{arith}
use Rattle.site.specs.declared.Site.{Site}
use Rattle.tree.specs.Tree.{of_link, has}
use Rattle.site.specs.Sites.{live, with_flow, without_flow}
use Rattle.reservations.specs.Reservations.{periods_judged, route_of, width_at, width_on, load, delay_bound}
use Rattle.reservations.specs.Words.{RoomAlong}
use Rattle.tree.proofs.Laws.Tree.{has_when, route_within}
use Rattle.reservations.proofs.Laws.Reservations.{width_live, load_taken}
use Rattle.site.proofs.Laws.Flows.{live_here}
use Rattle.flow_checks.specs.Flows.{route_for}
use Rattle.site_check.specs.Check.{flow_of}
use Rattle.site_check.specs.Words.{Sound}
use Rattle.site_check.proofs.Laws.Flows.{live_fits, live_few, sound_without}
use Rattle.admission.specs.Words.{Admissible}

-- The fields of a live flow, put back where they were.
pub again_site : (s : Site) (n : ℕ) → live s n ≡ true → with_flow (without_flow s n) (flow_of s n) ≡ s
unfolding with_flow without_flow flow_of live
again_site s n l =
    let one : set s.states n 1 ≡ s.states = rw (eqb-true (get_or s.states n 0) 1 l) at (set-get_or s.states n 0) in
    simp (set-set, one, set-get_or)

module _ (s : Site) (w : Sound s) (n : ℕ) (l : live s n ≡ true) where
  few : n < 64
  few = live_few s w.formed n l

  -- What the flow kept of a link of its route is what it asks for now.
  again_fits : (m : ℕ) → has m (route_of s n) ≡ true
      → load (without_flow s n) m + width_at (periods_judged s) (get_or s.rates n 0) m ≤ of_link s.capacities m
  unfolding flow_of route_of
  again_fits m h =
      let on = route_within s.parents m (get_or s.entries n 0) h in
      let kept : width_on s m n ≡ width_at (periods_judged s) (get_or s.rates n 0) m = width_live s m n l ∙ rw h in
      omega (
        arith,
        load_taken s n few w.formed.shape.states m,
        w.carried.within m on.0 (omega (arith, on.1, (live_fits s w.formed n l).entry_most)),
      )

  again_room : RoomAlong (without_flow s n) (flow_of s n).rate (route_for (without_flow s n) (flow_of s n))
  unfolding without_flow flow_of route_of periods_judged width_at
  again_room = record { each = λ j h. again_fits _ ((has_when _ (route_of s n)).1 (j, h, refl)) }

  pub again_admissible : (counters : List ℕ) → length counters ≡ 576 → Admissible (without_flow s n) counters (flow_of s n)
  unfolding without_flow flow_of route_of delay_bound
  again_admissible counters long = record {
    counted = long;
    sound = sound_without s w n;
    good = live_fits s w.formed n l;
    free = live_here s n 0 0 0 0 (omega (arith, few, w.formed.shape.states));
    room = again_room;
    time = w.punctual.within n few l;
  }
