-- What a sound site's nodes and flows have, and that it stays sound when a flow comes or goes.
use Prim.Native.Nat.{ℕ, zero, suc, ◌+◌, ◌-◌, ◌<◌, ◌≤◌}
use mathlib.Core.Path.{◌≡◌, refl, sym, ap}
use mathlib.Core.Bool.{Bool, true, false, cond}
use mathlib.Core.List.{List}
use mathlib.Core.Logic.{inl, ⊎_elim}
use lib.ListN.{length, get_or, set}
use lib.Seq.{get_or-set_same, get_or-set_other, set-get_or, set-set}
use borrow.Author.Tests.{eqb-true, eqb-false}
use native.Mathlib.Decide.{ℕ_discrete}
use native.Mathlib.Omega.{arith}
use Rattle.site.specs.declared.Site.{Site}
use Rattle.site.specs.declared.Flow.{Flow}
use Rattle.tree.specs.Tree.{of_link, up, route, has}
use Rattle.site.specs.Sites.{live, with_fields, with_flow, without_flow, with_schedule}
use Rattle.schedule.specs.Schedule.{gaps_under, rank, assigned_under, entry_assigned, offsets_assigned, periods_assigned, scheduled}
use Rattle.reservations.specs.Reservations.{periods_judged, route_of, width_at, load, along, delay_bound}
use Rattle.tree.proofs.Laws.Tree.{up_in, depth_up, depth_route, route_root}
use Rattle.reservations.proofs.Laws.Reservations.{load_with, load_without}
use Rattle.reservations.specs.Words.{Punctual}
use Rattle.schedule.specs.Words.{Served, Timed}
use Rattle.site_check.specs.Check.{node_of, flow_of}
use Rattle.limits.specs.Words.{FlowGood}
use Rattle.site_check.specs.Words.{IdleAt, Formed, Sound}
use Rattle.site_check.proofs.Laws.Forms.{formed_gapped, fields_formed, flow_formed}

module _ (s : Site) (g : Formed s) where
  -- A live flow is within its limits and so has one of the 64 numbers; a number without a live flow holds nothing.
  pub live_fits : (n : ℕ) → live s n ≡ true → FlowGood s.links 0 (flow_of s n)
  unfolding live
  live_fits n l = ⊎_elim (λ f. absurd (omega (arith, f.idle, eqb-true (get_or s.states n 0) 1 l))) (λ f. f.good) (g.flows n)

  pub live_few : (n : ℕ) → live s n ≡ true → n < 64
  unfolding flow_of
  live_few n l = omega (arith, (live_fits n l).within.number_most)

  free_none : (n : ℕ) → live s n ≡ false → IdleAt s n
  unfolding live
  free_none n l = ⊎_elim (λ f. f) (λ f. absurd (eqb-false (get_or s.states n 0) 1 l f.live)) (g.flows n)

  -- A node's parent has a smaller number, and at most 8 links lead to the root.
  parent_is : (i : ℕ) → i < s.links → up s.parents (suc i) ≡ (node_of s i).parent
  unfolding node_of
  parent_is i l =
      let e : suc i - 1 ≡ i = omega arith in
      sym (rw e at (up_in s.parents (suc i) (omega arith) (omega (arith, g.few, g.shape.parents))))

  pub parent_below : (m : ℕ) → 1 ≤ m → m ≤ s.links → up s.parents m < m
  parent_below zero o l = absurd (omega arith)
  parent_below (suc i) o l = omega (arith, parent_is i (omega arith), (g.nodes i (omega arith)).parent_below)

  pub route_short : (m : ℕ) → 1 ≤ m → m ≤ s.links → length (route s.parents m) ≤ 8
  route_short zero o l = absurd (omega arith)
  route_short (suc i) o l =
      rw (← depth_route s.parents (suc i), depth_up s.parents (suc i) (parent_below (suc i) o l), parent_is i (omega arith))
      (g.nodes i (omega arith)).depth_most

  -- Taking a flow from a free number changes nothing.
  pub without_none : (n : ℕ) → live s n ≡ false → without_flow s n ≡ s
  unfolding without_flow flow_of
  without_none n l =
      let f = free_none n l in
      rw (none s.states f.idle, none s.entries f.entry, none s.rates f.rate, none s.deadlines f.deadline)
    where
      none : (xs : List ℕ) → get_or xs n 0 ≡ 0 → set xs n 0 ≡ xs
      none xs e = rw e at (set-get_or xs n 0)

  -- Without one of its flows a site is still in form.
  formed_without : (n : ℕ) → n < 64 → Formed (without_flow s n)
  unfolding without_flow
  formed_without n l = fields_formed s 0 (record { number = n; entry = 0; rate = 0; deadline = 0 }) g l
      (inl (record { idle = refl; entry = refl; rate = refl; deadline = refl }))

-- A flow that is taken leaves nothing of what was put at its number.
pub without_with : (s : Site) (f : Flow) → without_flow (with_flow s f) f.number ≡ without_flow s f.number
unfolding with_flow without_flow
without_with s f = simp set-set

-- What the laws of the schedule ask of a site.
pub sound_timed : (s : Site) → Sound s → Timed s
unfolding scheduled with_schedule node_of
sound_timed s w = record {
  few = w.formed.few;
  gapped = formed_gapped s w.formed;
  below = λ i l. (w.formed.nodes i l).parent_below;
  served = w.served;
  offsets = ap (λ (t : Site). t.offsets) w.own;
  periods = ap (λ (t : Site). t.periods) w.own;
}

-- With other fields at flow number n a sound site stays sound where nodes and flows are in form, the loads are within the capacities and flow n is
-- on time: the schedule looks at the nodes alone, and the other flows are what they were.
module _ (s : Site) (w : Sound s) (n state entry rate deadline : ℕ) where
  own_kept : with_fields s n state entry rate deadline ≡ scheduled (with_fields s n state entry rate deadline)
  unfolding scheduled with_schedule gaps_under rank assigned_under entry_assigned offsets_assigned periods_assigned
  own_kept = ap (λ (t : Site). with_fields t n state entry rate deadline) w.own

  served_kept : Served (with_fields s n state entry rate deadline)
  unfolding gaps_under
  served_kept = record { fit = w.served.fit }

  punctual_kept : along (periods_judged s) (route s.parents entry) ≤ deadline → Punctual (with_fields s n state entry rate deadline)
  unfolding live route_of periods_judged delay_bound
  punctual_kept time = record {
    within =
        λ k l e. elim (ℕ_discrete k n) [
          | yes q ↦
              rw (
                q,
                get_or-set_same s.entries n entry 0 (omega (arith, w.formed.shape.entries)),
                get_or-set_same s.deadlines n deadline 0 (omega (arith, w.formed.shape.deadlines)),
              ) time
          | no q ↦
              rw (get_or-set_other s.entries n k entry 0 q, get_or-set_other s.deadlines n k deadline 0 q)
              (w.punctual.within k l (rw (get_or-set_other s.states n k state 0 q) at e))
        ];
  }

  sound_changed : Formed (with_fields s n state entry rate deadline)
      → ((m : ℕ) → 1 ≤ m → m ≤ s.links → load (with_fields s n state entry rate deadline) m ≤ of_link s.capacities m)
      → along (periods_judged s) (route s.parents entry) ≤ deadline
      → Sound (with_fields s n state entry rate deadline)
  sound_changed g room time = record {
    formed = g;
    served = served_kept;
    carried = record { within = room };
    punctual = punctual_kept time;
    own = own_kept;
  }

module _ (s : Site) (w : Sound s) where
  -- A flow more.
  pub sound_with : (f : Flow) → live s f.number ≡ false → FlowGood s.links 0 f
      → ((m : ℕ) → has m (route s.parents f.entry) ≡ true → load s m + width_at (periods_judged s) f.rate m ≤ of_link s.capacities m)
      → along (periods_judged s) (route s.parents f.entry) ≤ f.deadline
      → Sound (with_flow s f)
  unfolding with_flow
  sound_with f free good room time =
      sound_changed s w f.number 1 f.entry f.rate f.deadline (flow_formed s f w.formed good)
      (λ m o l. rw (grown m) (carries m (w.carried.within m o l) (has m (route s.parents f.entry)) refl)) time
    where
      grown : (m : ℕ) → load (with_flow s f) m ≡ load s m + cond (has m (route s.parents f.entry)) (width_at (periods_judged s) f.rate m) 0
      grown = let h = w.formed.shape in load_with s f (omega (arith, good.within.number_most)) h.states h.entries h.rates free

      carries : (m : ℕ) → load s m ≤ of_link s.capacities m → (b : Bool) → has m (route s.parents f.entry) ≡ b
          → load s m + cond b (width_at (periods_judged s) f.rate m) 0 ≤ of_link s.capacities m
      carries m h true e = room m e
      carries m h false e = omega arith

  -- A flow less.
  pub sound_without : (n : ℕ) → Sound (without_flow s n)
  unfolding without_flow along
  sound_without n = go (live s n) refl
    where
      go : (b : Bool) → live s n ≡ b → Sound (without_flow s n)
      go true l =
          let few = live_few s w.formed n l in
          sound_changed s w n 0 0 0 0 (formed_without s w.formed n few)
          (λ m a b. omega (arith, load_without s n few w.formed.shape.states m, w.carried.within m a b))
          (rw (route_root s.parents) (omega arith))
      go false l = rw (without_none s w.formed n l) w
