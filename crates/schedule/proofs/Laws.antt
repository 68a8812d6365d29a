-- What is proved of a site's schedule: which gaps the slot rule is asked for, and what the slots of links have. The modules named here hold the lemmas.
pub mod Schedule
pub mod Wanted
pub mod Slots
pub mod Crowded
use Prim.Native.Nat.{ℕ, zero, suc, ◌+◌, ◌≤◌, ◌<◌}
use mathlib.Core.Path.{◌≡◌, refl, sym, ◌∙◌, ap}
use mathlib.Core.Bool.{true}
use mathlib.Core.Logic.{◌⊎◌, inl, inr, ◌↔◌}
use mathlib.Core.List.{List}
use lib.ListN.{length, get_or}
use lib.Seq.{ext_get_or}
use native.Mathlib.Omega.{arith}
use Rattle.slot_rule.specs.Rule.{base, offsets_of, periods_of}
use Rattle.slot_rule.specs.Words.{Once}
use Rattle.slot_rule.proofs.Laws.{period_largest, never_together, once_a_period}
use Rattle.lists.proofs.Laws.Search.{lt_or_le}
use Rattle.slot_rule.proofs.Laws.Bases.{smallest_within, base_fits}
use Rattle.slot_rule.proofs.Laws.Room.{period_at, base_harmonic}
use Rattle.site.specs.declared.Site.{Site}
use Rattle.tree.specs.Tree.{of_link}
use Rattle.site.specs.Sites.{used}
use Rattle.schedule.specs.Schedule.{gaps_under, rank, offsets_assigned, periods_assigned, link_sends}
use Rattle.reservations.specs.Reservations.{route_of, along, delay_bound}
use Rattle.schedule.specs.Words.{Children, Wellgapped, Served, ChildSlots, Timed, SendsAt}
use Rattle.tree.proofs.Laws.Tree.{route_within}
use Rattle.schedule.proofs.Laws.Schedule.{rank_apart, offsets_assigned_long, periods_assigned_long, entry_unused}
use Rattle.schedule.proofs.Laws.Wanted.{children_placed, children_once}
use Rattle.schedule.proofs.Laws.Slots.{placed_in, placed, slot, sends_in, along_rises}

-- The gaps that the slot rule is asked for under a parent are just those that its children want, by rising number and each child once.
pub children_gaps : (s : Site) → s.links ≤ 63 → (p : ℕ) → (nodes : List ℕ) × Children s p nodes (gaps_under s p)
children_gaps s few p = let w = children_placed s few p in (w.0, w.1)

-- The words for the schedule settle it: two pairs of lists of which they hold are the same.
pub slots_once : (s : Site) → s.links ≤ 63 → ((i : ℕ) → i < s.links → get_or s.parents i 0 ≤ i) → (offsets periods offsets' periods' : List ℕ)
    → ChildSlots s offsets periods → ChildSlots s offsets' periods' → (offsets ≡ offsets') × (periods ≡ periods')
unfolding of_link
slots_once s few below offsets periods offsets' periods' c d = (
  ext_get_or 0 offsets offsets' (c.offsets_long ∙ sym d.offsets_long) (λ i l. (entry i (omega (arith, c.offsets_long)) (lt_or_le i s.links)).0),
  ext_get_or 0 periods periods' (c.periods_long ∙ sym d.periods_long) (λ i l. (entry i (omega (arith, c.periods_long)) (lt_or_le i s.links)).1),
)
  where
    entry : (i : ℕ) → i < 63 → (i < s.links) ⊎ (s.links ≤ i) → (get_or offsets i 0 ≡ get_or offsets' i 0) × (get_or periods i 0 ≡ get_or periods' i 0)
    entry i l (inr m) = let u = c.unused i m l in let v = d.unused i m l in (u.0 ∙ sym v.0, u.1 ∙ sym v.1)
    entry i l (inl m) =
        let w = children_placed s few (get_or s.parents i 0) in
        go w.0 w.1 (w.1.all (suc i) (omega arith) (omega arith) refl)
      where
        go : (nodes : List ℕ) → Children s (get_or s.parents i 0) nodes (gaps_under s (get_or s.parents i 0))
            → (k : ℕ) × (k < length nodes) × (get_or nodes k 0 ≡ suc i) → (get_or offsets i 0 ≡ get_or offsets' i 0) × (get_or periods i 0 ≡ get_or periods' i 0)
        go nodes w (k, a, e) =
            let under : get_or s.parents i 0 ≤ s.links = omega (arith, below i m) in
            let u = rw e at (c.slots _ nodes _ under w k a) in
            let v = rw e at (d.slots _ nodes _ under w k a) in
            (u.0 ∙ sym v.0, u.1 ∙ sym v.1)

-- Two lists are the schedule of a site just when the words hold of them: under every parent its children, in their order, have the offsets and periods that
-- the slot rule gives the gaps that they want, and entries past the links are 0.
module _ (s : Site) (few : s.links ≤ 63) (gapped : Wellgapped s) (below : (i : ℕ) → i < s.links → get_or s.parents i 0 ≤ i) (served : Served s) where
  assigned_slots : (offsets periods : List ℕ) → offsets ≡ offsets_assigned s → periods ≡ periods_assigned s → ChildSlots s offsets periods
  unfolding of_link used
  assigned_slots offsets periods o q = record {
    offsets_long = ap length o ∙ offsets_assigned_long s;
    periods_long = ap length q ∙ periods_assigned_long s;
    slots = λ p nodes gaps l c k m. entry p nodes gaps c k m (children_placed s few p);
    unused = λ i m l. let w = entry_unused s i (omega arith) l in
        (ap (λ (xs : List ℕ). get_or xs i 0) o ∙ w.0, ap (λ (xs : List ℕ). get_or xs i 0) q ∙ w.1);
  }
    where
      entry : (p : ℕ) (nodes gaps : List ℕ) → Children s p nodes gaps → (k : ℕ) → k < length nodes
          → (nodes' : List ℕ) × Children s p nodes' (gaps_under s p) × ((k i : ℕ) → k < length nodes' → get_or nodes' k 0 ≡ suc i → rank s p i ≡ k)
          → (of_link offsets (get_or nodes k 0) ≡ get_or (offsets_of 2 gaps) k 0) × (of_link periods (get_or nodes k 0) ≡ get_or (periods_of 2 gaps) k 0)
      entry p nodes gaps c k m (nodes', d, place) = go (get_or nodes k 0) refl (c.child k m)
        where
          same : (nodes ≡ nodes') × (gaps ≡ gaps_under s p)
          same = children_once s p nodes gaps nodes' (gaps_under s p) c d

          go : (n : ℕ) → get_or nodes k 0 ≡ n → (1 ≤ n) × (n ≤ s.links) × (of_link s.parents n ≡ p)
              → (of_link offsets n ≡ get_or (offsets_of 2 gaps) k 0) × (of_link periods n ≡ get_or (periods_of 2 gaps) k 0)
          go zero e w = absurd (omega (arith, w.0))
          go (suc i) e w =
              let x = placed_in s few gapped below served offsets periods o q p i (omega (arith, w.1)) w.2 in
              let at : rank s p i ≡ k = place k i (omega (arith, ap length same.0)) (ap (λ (ns : List ℕ). get_or ns k 0) (sym same.0) ∙ e) in
              rw (same.1, ← at) (x.offset, x.period)

  pub child_slots : (offsets periods : List ℕ) → ((offsets ≡ offsets_assigned s) × (periods ≡ periods_assigned s)) ↔ ChildSlots s offsets periods
  child_slots offsets periods = (
    λ w. assigned_slots offsets periods w.0 w.1,
    λ c. slots_once s few below offsets periods _ _ c (assigned_slots (offsets_assigned s) (periods_assigned s) refl refl),
  )

-- A site with its own schedule.
module _ (s : Site) (h : Timed s) where
  -- 01, The site: two links of one parent share no slot.
  pub siblings_apart : (n m t : ℕ) → (n ≡ m → ⊥) → of_link s.parents n ≡ of_link s.parents m
      → link_sends s n t ≡ true → link_sends s m t ≡ true → ⊥
  unfolding of_link
  siblings_apart n m t d e u v = go n m d e ((sends_in s n t).0 u) ((sends_in s m t).0 v)
    where
      apart : (i k : ℕ) → get_or s.parents i 0 ≡ get_or s.parents k 0 → (i ≡ k → ⊥) → (i < k) ⊎ (k ≤ i)
          → rank s (get_or s.parents k 0) i ≡ rank s (get_or s.parents k 0) k → ⊥
      apart i k e d (inl l) q = omega (arith, rank_apart s (get_or s.parents k 0) i k l e)
      apart i k e d (inr l) q = omega (arith, rank_apart s (get_or s.parents k 0) k i (omega arith) refl)

      go : (n m : ℕ) → (n ≡ m → ⊥) → of_link s.parents n ≡ of_link s.parents m → SendsAt s n t → SendsAt s m t → ⊥
      go zero m d e u v = omega (arith, u.0)
      go (suc i) zero d e u v = omega (arith, v.0)
      go (suc i) (suc k) d e u v =
          let p = get_or s.parents k 0 in
          let x = placed s h p i (omega (arith, u.1)) e in
          let y = placed s h p k (omega (arith, v.1)) refl in
          never_together 2 (omega arith) (gaps_under s p) x.base_some _ _ t x.among y.among
          (apart i k e (λ q. d (omega arith)) (lt_or_le i k)) (slot s h p i t x u.2) (slot s h p k t y v.2)

  -- In every run of `period` slots a link sends exactly once.
  pub link_once : (n start : ℕ) → 1 ≤ n → n ≤ s.links
      → (t : ℕ) × (start ≤ t) × (t < start + of_link s.periods n) × (link_sends s n t ≡ true)
      × ((u : ℕ) → start ≤ u → u < start + of_link s.periods n → link_sends s n u ≡ true → u ≡ t)
  unfolding of_link
  link_once zero start o l = absurd (omega arith)
  link_once (suc i) start o l =
      let p = get_or s.parents i 0 in
      let x = placed s h p i (omega arith) refl in
      let w : Once (get_or s.periods i 0) (get_or s.offsets i 0) start =
      rw (x.period, x.offset) (once_a_period 2 (omega arith) (gaps_under s p) x.base_some _ start x.among) in
      (w.0, w.1, w.2, (sends_in s (suc i) w.0).1 (o, l, w.3), λ u a b q. w.4 u a b ((sends_in s (suc i) u).0 q).2)

  -- A link's period is at least 1 and at most its wanted gap.
  pub period_within : (n : ℕ) → 1 ≤ n → n ≤ s.links → (1 ≤ of_link s.periods n) × (of_link s.periods n ≤ of_link s.gaps n)
  unfolding of_link
  period_within zero o l = absurd (omega arith)
  period_within (suc i) o l =
      let p = get_or s.parents i 0 in
      let x = placed s h p i (omega arith) refl in
      let some = x.base_some in
      let below : base 2 (gaps_under s p) ≤ get_or (gaps_under s p) (rank s p i) 0 =
      omega (arith, (base_fits 2 (omega arith) (gaps_under s p) some).1, smallest_within (gaps_under s p) (rank s p i) x.place) in
      rw x.period (
        (base_harmonic 2 (omega arith) (gaps_under s p) some).positive (rank s p i) x.among,
        rw (period_at 2 (omega arith) (gaps_under s p) some (rank s p i) x.among, ← x.gap) (period_largest 2 (omega arith) _ _ some below).1,
      )

  -- So G is at most the sum of the wanted gaps on the route.
  pub bound_within : (n : ℕ) → get_or s.entries n 0 ≤ s.links → delay_bound s n ≤ along s.gaps (route_of s n)
  unfolding delay_bound route_of
  bound_within n a = along_rises _ _ _ (λ m e.
      let w = route_within s.parents m (get_or s.entries n 0) e in (period_within m w.0 (omega (arith, w.1))).1)
