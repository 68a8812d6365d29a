-- What is proved of reservations: what the searches of 12, 13 and 17 find, in words. The module named here holds the lemmas.
pub mod Reservations
use Prim.Native.Nat.{ℕ, zero, suc, ◌+◌, ◌*◌, ◌≤◌, ◌<◌}
use mathlib.Core.Path.{◌≡◌, refl}
use mathlib.Core.Bool.{Bool, true, false, cond, ◌&&◌, and-eq-true_iff}
use mathlib.Core.List.{List, [], ◌∷◌}
use mathlib.Core.Logic.{◌↔◌}
use lib.Dec.{ltb}
use lib.ListN.{length, get_or}
use borrow.Author.Tests.{lt-ltb, le-ltb, ltb-true, ltb-false}
use native.Mathlib.Numerals.{add-one}
use native.Mathlib.Omega.{arith}
use Rattle.lists.proofs.Laws.Search.{first_none, first_found}
use Rattle.site.specs.declared.Site.{Site}
use Rattle.site.specs.Sites.{used, live}
use Rattle.tree.specs.Tree.{of_link}
use Rattle.reservations.specs.Reservations.{periods_judged, width_at, load, over, first_over, unfit, first_unfit, late, first_late, delay_bound}
use Rattle.reservations.specs.Words.{Carries, Carried, FullAt, HasRoom, RoomAlong, UnfitAt, OnTime, Punctual, LateAt}

module _ (s : Site) (few : s.links ≤ 63) where
  -- A link by its number and by its index.
  link_carries : (i : ℕ) → over s i ≡ false → Carries s (suc i)
  unfolding over of_link
  link_carries i e = rw (← add-one i) (ltb-false _ _ e)

  carries_link : (i : ℕ) → Carries s (suc i) → over s i ≡ false
  unfolding over of_link
  carries_link i h = le-ltb _ (load s (i + 1)) (rw (add-one i) h)

  -- The search of 12 finds nothing just when every link carries its widths, and its first just where the lowest does not.
  pub carried_when : (used s.links ≤ first_over s) ↔ Carried s
  unfolding first_over used
  carried_when = (
    λ h. record { within = within ((first_none (over s) (used s.links)).0 h) },
    λ w. (first_none (over s) (used s.links)).1 (λ i l. carries_link i (w.within (suc i) (omega arith) (omega arith))),
  )
    where
      within : ((i : ℕ) → i < used s.links → over s i ≡ false) → (m : ℕ) → 1 ≤ m → m ≤ s.links → Carries s m
      within none zero o l = absurd (omega arith)
      within none (suc i) o l = link_carries i (none i (omega arith))

  pub full_when : (i : ℕ) → ((first_over s ≡ i) × (i < used s.links)) ↔ FullAt s (suc i)
  unfolding first_over used over of_link
  full_when i = (
    λ w. let f = (first_found (over s) (used s.links) i).0 w in record {
      link = (omega arith, omega (arith, f.0));
      over = rw (← add-one i) (ltb-true _ _ f.1);
      lower = lower f.2;
    },
    λ w. (first_found (over s) (used s.links) i).1
        (omega (arith, w.link.1), lt-ltb _ (load s (i + 1)) (rw (add-one i) w.over), λ j l. carries_link j (w.lower (suc j) (omega arith) (omega arith))),
  )
    where
      lower : ((j : ℕ) → j < i → over s j ≡ false) → (k : ℕ) → 1 ≤ k → k < suc i → Carries s k
      lower none zero o l = absurd (omega arith)
      lower none (suc j) o l = link_carries j (none j (omega arith))

-- Whether a flow is late, by the test and in words.
module _ (s : Site) where
  flow_on_time : (n : ℕ) → late s n ≡ false → live s n ≡ true → OnTime s n
  unfolding late periods_judged delay_bound
  flow_on_time n e l = ltb-false _ _ (rw l at e)

  on_time_flow : (n : ℕ) → (live s n ≡ true → OnTime s n) → late s n ≡ false
  unfolding late periods_judged delay_bound
  on_time_flow n = go (live s n)
    where
      go : (t : Bool) → (t ≡ true → OnTime s n) → t && ltb (get_or s.deadlines n 0) (delay_bound s n) ≡ false
      go true h = le-ltb _ _ (h refl)
      go false h = refl

  -- The search of 13 finds nothing just when every live flow is on time, and its first just where the lowest is not.
  pub punctual_when : (64 ≤ first_late s) ↔ Punctual s
  unfolding first_late
  punctual_when = (
    λ h. record { within = λ n l. flow_on_time n ((first_none (late s) 64).0 h n l) },
    λ w. (first_none (late s) 64).1 (λ n l. on_time_flow n (w.within n l)),
  )

  pub late_when : (n : ℕ) → ((first_late s ≡ n) × (n < 64)) ↔ LateAt s n
  unfolding first_late late periods_judged delay_bound
  late_when n = (
    λ w. let f = (first_found (late s) 64 n).0 w in let b = (and-eq-true_iff (live s n) _).0 f.1 in
        record { flow = (f.0, b.0); over = ltb-true _ _ b.1; lower = λ k l. flow_on_time k (f.2 k l) },
    λ w. (first_found (late s) 64 n).1 (w.flow.0, rw w.flow.1 (lt-ltb _ _ w.over), λ k l. on_time_flow k (w.lower k l)),
  )

-- The search of 17 on links that are none of them the root: it finds nothing just when the width fits on each, and its first just where the first link
-- going up has no room.
module _ (s : Site) (rate : ℕ) where
  no_room : (m : ℕ) → unfit s rate m ≡ true → of_link s.capacities m < load s m + rate * of_link s.periods m
  unfolding unfit periods_judged width_at
  no_room m q = ltb-true _ _ q

  pub room_when : (links : List ℕ) → ((j : ℕ) → j < length links → 1 ≤ get_or links j 0) → (first_unfit s rate links ≡ 0) ↔ RoomAlong s rate links
  unfolding first_unfit unfit periods_judged width_at
  room_when [] some = (λ e. record { each = λ j l. absurd (omega arith) }, λ w. refl)
  room_when (m ∷ ms) some = go (unfit s rate m) refl (room_when ms (λ j l. some (suc j) (omega arith)))
    where
      all : HasRoom s rate m → RoomAlong s rate ms → (j : ℕ) → j < suc (length ms) → HasRoom s rate (get_or (m ∷ ms) j 0)
      all h w zero l = h
      all h w (suc j) l = w.each j (omega arith)

      go : (t : Bool) → unfit s rate m ≡ t → (first_unfit s rate ms ≡ 0) ↔ RoomAlong s rate ms
          → (cond t m (first_unfit s rate ms) ≡ 0) ↔ RoomAlong s rate (m ∷ ms)
      go true q ih = (λ e. absurd (omega (arith, some 0 (omega arith))), λ w. absurd (omega (arith, w.each 0 (omega arith), no_room m q)))
      go false q ih = (λ e. record { each = all (ltb-false _ _ q) (ih.0 e) }, λ w. ih.1 (record { each = λ j l. w.each (suc j) (omega arith) }))

  pub unfit_when : (links : List ℕ) (m : ℕ) → 1 ≤ m → (first_unfit s rate links ≡ m) ↔ UnfitAt s rate links m
  unfolding first_unfit unfit periods_judged width_at
  unfit_when [] m o = (λ e. absurd (omega arith), λ w. absurd (omega (arith, w.link.0)))
  unfit_when (k ∷ ms) m o = go (unfit s rate k) refl (unfit_when ms m o)
    where
      before : HasRoom s rate k → (at : ℕ) → ((j : ℕ) → j < at → HasRoom s rate (get_or ms j 0)) → (j : ℕ) → j < suc at → HasRoom s rate (get_or (k ∷ ms) j 0)
      before h at w zero l = h
      before h at w (suc j) l = w j (omega arith)

      here : unfit s rate k ≡ true → (at : ℕ) → get_or (k ∷ ms) at 0 ≡ m → ((j : ℕ) → j < at → HasRoom s rate (get_or (k ∷ ms) j 0)) → k ≡ m
      here q zero e w = e
      here q (suc at) e w = absurd (omega (arith, w 0 (omega arith), no_room k q))

      later : HasRoom s rate k → of_link s.capacities m < load s m + rate * of_link s.periods m → (at : ℕ) → at < suc (length ms)
          → get_or (k ∷ ms) at 0 ≡ m → ((j : ℕ) → j < at → HasRoom s rate (get_or (k ∷ ms) j 0)) → UnfitAt s rate ms m
      later h v zero l e w = absurd (omega (arith, rw e at h))
      later h v (suc at) l e w = record { at = at; link = (omega arith, e); over = v; before = λ j b. w (suc j) (omega arith) }

      go : (t : Bool) → unfit s rate k ≡ t → (first_unfit s rate ms ≡ m) ↔ UnfitAt s rate ms m
          → (cond t k (first_unfit s rate ms) ≡ m) ↔ UnfitAt s rate (k ∷ ms) m
      go true q ih = (
        λ e. record { at = 0; link = (omega arith, e); over = rw (← e) (no_room k q); before = λ j l. absurd (omega arith) },
        λ w. here q w.at w.link.1 w.before,
      )
      go false q ih = (
        λ e. let w = ih.0 e in
            record { at = suc w.at; link = (omega (arith, w.link.0), w.link.1); over = w.over; before = before (ltb-false _ _ q) w.at w.before },
        λ w. ih.1 (later (ltb-false _ _ q) w.over w.at w.link.0 w.link.1 w.before),
      )
