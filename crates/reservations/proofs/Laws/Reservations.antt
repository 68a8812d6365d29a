-- What flows keep on the links of their routes: the sums that the code makes on the way up, and how a flow more or less changes them.
use Prim.Native.Nat.{ℕ, zero, suc, ◌+◌, ◌-◌, ◌*◌, ◌≤◌, ◌<◌, min}
use mathlib.Core.Path.{◌≡◌, refl, sym, ◌∙◌, ap}
use mathlib.Core.Bool.{Bool, true, false, not, cond}
use mathlib.Core.List.{List, [], ◌∷◌}
use mathlib.Core.Logic.{⊎_elim}
use lib.Dec.{eqb, ltb}
use lib.ListN.{length, get_or, set, take, replicate, length-set, get_or-replicate, get_or-eq_default}
use lib.Seq.{get_or-set_same, get_or-set_other, ext_get_or}
use borrow.Author.Tests.{eqb-true, eqb-false}
use native.Mathlib.Nat.{mul-le-mul, zero-add, add-zero}
use native.Mathlib.Omega.{arith}
use Rattle.std.specs.Prelude.{Option, None, Some}
use Rattle.std.specs.Option.{option_or}
use Rattle.std.specs.List.{position, position_or_len, zip}
use Rattle.std.proofs.lemmas.List.{length-take-le, get_or-take}
use Rattle.std.proofs.lemmas.Slice.Zip.{length-zip, get_or-zip}
use Rattle.lists.specs.Search.{first, first_in, some_below}
use Rattle.lists.proofs.Laws.Search.{lt_or_le, first_hit, first_miss, first_end, below_when}
use Rattle.site.specs.declared.Site.{Site}
use Rattle.site.specs.declared.Flow.{Flow}
use Rattle.tree.specs.Tree.{of_link, up, route, has}
use Rattle.site.specs.Sites.{used, live, with_fields, with_flow, without_flow}
use Rattle.reservations.specs.Reservations.{periods_judged, route_of, width_at, width_on, load, loads_of, over, first_over, unfit, first_unfit, along, late, first_late}
use Rattle.reservations.specs.Reservations.{delay_bound}
use Rattle.lists.specs.Lists.{sum_to}
use Rattle.reservations.specs.Inner.{carried, found_with, first_full, ReservedAs}
use Rattle.tree.proofs.Laws.Tree.{link_in, way_up, route_up, route_end, route_root, route_within, up_within}
use Rattle.lists.proofs.Laws.Listed.{length_listed, get_or_listed}
use Rattle.lists.proofs.Laws.Sums.{sum_more, sum_except}
use Rattle.site.proofs.Laws.Flows.{Left, none_left, live_here}

-- The sum over a route, link by link: the node's link and the rest of the way up.
module _ (xs p : List ℕ) (n u : ℕ) where
  pub along_up : u ≡ up p n → u < n → along xs (route p n) ≡ of_link xs n + along xs (route p u)
  unfolding along
  along_up e h = rw (e, route_up p n (rw e at h))

  pub along_end : u ≡ up p n → n ≤ u → along xs (route p n) ≡ 0
  unfolding along
  along_end e h = rw (route_end p n (rw e at h))

module _ (periods : List ℕ) (rate : ℕ) where
  carried_long : (ms loads : List ℕ) → length (carried periods rate ms loads) ≡ length loads
  unfolding carried
  carried_long [] loads = refl
  carried_long (m ∷ ms) loads =
      carried_long ms (set loads (m - 1) (get_or loads (m - 1) 0 + width_at periods rate m)) ∙ length-set loads (m - 1) _

  -- The numbers of a route fall, so no link has the width added twice.
  carried_at : (p : List ℕ) (i n : ℕ) (loads : List ℕ) → i < length loads
      → get_or (carried periods rate (route p n) loads) i 0 ≡ get_or loads i 0 + cond (has (i + 1) (route p n)) (width_at periods rate (i + 1)) 0
  unfolding carried has
  carried_at p i =
      way_up p (λ n. (loads : List ℕ) → i < length loads
      → get_or (carried periods rate (route p n) loads) i 0 ≡ get_or loads i 0 + cond (has (i + 1) (route p n)) (width_at periods rate (i + 1)) 0)
      (λ n l loads h. rw (route_end p n l) (omega arith))
      (λ n l ih loads h. rw (route_up p n l) (go n l loads h (ih (more n loads)) (eqb n (i + 1)) refl))
    where
      more : ℕ → List ℕ → List ℕ
      more n loads = set loads (n - 1) (get_or loads (n - 1) 0 + width_at periods rate n)

      below : (n : ℕ) → up p n < n → n ≡ i + 1 → (t : Bool) → has (i + 1) (route p (up p n)) ≡ t → t ≡ false
      below n l e true t = absurd (omega (arith, (route_within p (i + 1) (up p n) t).1))
      below n l e false t = refl

      go : (n : ℕ) → up p n < n → (loads : List ℕ) → i < length loads
          → (i < length (more n loads) → get_or (carried periods rate (route p (up p n)) (more n loads)) i 0
          ≡ get_or (more n loads) i 0 + cond (has (i + 1) (route p (up p n))) (width_at periods rate (i + 1)) 0)
          → (b : Bool) → eqb n (i + 1) ≡ b
          → get_or (carried periods rate (route p (up p n)) (more n loads)) i 0
          ≡ get_or loads i 0 + cond (cond b true (has (i + 1) (route p (up p n)))) (width_at periods rate (i + 1)) 0
      go n l loads h ih true t =
          let e : n ≡ i + 1 = eqb-true n (i + 1) t in
          let k : n - 1 ≡ i = omega arith in
          ih (rw length-set h) ∙ rw (below n l e _ refl, k, get_or-set_same loads i (get_or loads i 0 + width_at periods rate n) 0 h, e) (omega arith)
      go n l loads h ih false t =
          let apart : i ≡ n - 1 → ⊥ = λ e. eqb-false n (i + 1) t (omega arith) in
          ih (rw length-set h) ∙ rw (get_or-set_other loads (n - 1) i (get_or loads (n - 1) 0 + width_at periods rate n) 0 apart)

  -- Nor does a load rise by more than a width.
  pub carried_le : (most : ℕ) → ((m : ℕ) → width_at periods rate m ≤ most) → (p : List ℕ) (n : ℕ) (loads : List ℕ) (i : ℕ)
      → get_or (carried periods rate (route p n) loads) i 0 ≤ get_or loads i 0 + most
  carried_le most b p n loads i =
      ⊎_elim (λ l. rw (carried_at p i n loads l) (go (has (i + 1) (route p n))))
      (λ l. rw (get_or-eq_default (carried periods rate (route p n) loads) 0 {n = i} (omega (arith, carried_long (route p n) loads))) (omega arith))
      (lt_or_le i (length loads))
    where
      go : (t : Bool) → get_or loads i 0 + cond t (width_at periods rate (i + 1)) 0 ≤ get_or loads i 0 + most
      go true = omega (arith, b (i + 1))
      go false = omega arith

-- The widths over a route, link by link.
module _ (periods p loads : List ℕ) (rate n u : ℕ) where
  pub carried_up : u ≡ up p n → u < n → carried periods rate (route p n) loads
      ≡ carried periods rate (route p u) (set loads (n - 1) (get_or loads (n - 1) 0 + rate * of_link periods n))
  unfolding carried width_at
  carried_up e h = rw (e, route_up p n (rw e at h))

  pub carried_end : u ≡ up p n → n ≤ u → carried periods rate (route p n) loads ≡ loads
  unfolding carried
  carried_end e h = rw (route_end p n (rw e at h))

-- The product of a u8 and a u16.
pub width_le : (rate x : ℕ) → rate ≤ 255 → x ≤ 65535 → rate * x ≤ 16711425
width_le rate x a b = mul-le-mul {n₂ = 255} {m₂ = 65535} a b

link_le : (xs : List ℕ) (most : ℕ) → ((i : ℕ) → get_or xs i 0 ≤ most) → (m : ℕ) → of_link xs m ≤ most
unfolding of_link
link_le xs most b zero = omega arith
link_le xs most b (suc i) = b i

-- A rate of 8 bits keeps no more than this of any link, if the periods have 16.
pub width_at_le : (periods : List ℕ) (rate : ℕ) → rate ≤ 255 → ((i : ℕ) → get_or periods i 0 ≤ 65535) → (m : ℕ) → width_at periods rate m ≤ 16711425
unfolding width_at
width_at_le periods rate r b m = width_le rate (of_link periods m) r (link_le periods 65535 b m)

-- What a flow keeps of a link.
module _ (s : Site) (m n : ℕ) where
  pub width_live : live s n ≡ true → width_on s m n ≡ cond (has m (route_of s n)) (width_at (periods_judged s) (get_or s.rates n 0) m) 0
  unfolding width_on
  width_live e = rw e

  width_none : live s n ≡ false → width_on s m n ≡ 0
  unfolding width_on
  width_none e = rw e

-- Whether a flow is late, by the sum that the code made for it.
module _ (s : Site) (n : ℕ) where
  late_none : live s n ≡ false → late s n ≡ false
  unfolding late
  late_none e = rw e

  late_judged : (sum : ℕ) → live s n ≡ true → sum ≡ along (periods_judged s) (route_of s n) → late s n ≡ ltb (get_or s.deadlines n 0) sum
  unfolding late
  late_judged sum e q = rw (e, q)

-- The flows below n are done: the loads are the sums of their widths, and the late flow found, or else the first one from n on, is the first of all.
pub record Judging (s : Site) (n : ℕ) (loads : List ℕ) (found : Option ℕ) : Type 0 where
  pub long : length loads ≡ 63
  pub each : (i : ℕ) → i < 63 → get_or loads i 0 ≡ sum_to (width_on s (i + 1)) n
  pub flow : option_or found (some_below 64 (first_in (late s) 64 n)) ≡ some_below 64 (first_late s)

module _ (s : Site) where
  pub judging_start : Judging s 0 (replicate 63 0) None
  unfolding sum_to first_late
  judging_start = record { long = refl; each = λ i l. get_or-replicate {A = ℕ} 63 i 0 0 l; flow = refl }

  module _ (n : ℕ) (loads : List ℕ) (found : Option ℕ) (few : n < 64) (w : Judging s n loads found) where
    pub judging_idle : live s n ≡ false → Judging s (n + 1) loads found
    judging_idle d = record {
      long = w.long;
      each = λ i l. w.each i l ∙ omega (arith, sum_more (width_on s (i + 1)) n, width_none s (i + 1) n d);
      flow = rw (← first_miss (late s) 64 n few (late_none s n d)) w.flow;
    }

    -- A live flow: its widths and the sum of its periods come from one way up.
    module _ (l : live s n ≡ true) (sum : ℕ) (next : List ℕ)
        (up : (sum ≡ along (periods_judged s) (route s.parents (get_or s.entries n 0)))
        × (next ≡ carried (periods_judged s) (get_or s.rates n 0) (route s.parents (get_or s.entries n 0)) loads)) where
      judged : late s n ≡ ltb (get_or s.deadlines n 0) sum
      unfolding route_of
      judged = late_judged s n sum l up.0

      more : (i : ℕ) → i < 63 → get_or next i 0 ≡ sum_to (width_on s (i + 1)) (n + 1)
      unfolding route_of
      more i h = omega (
        arith,
        w.each i h,
        sum_more (width_on s (i + 1)) n,
        width_live s (i + 1) n l,
        ap (λ (xs : List ℕ). get_or xs i 0) up.1
            ∙ carried_at (periods_judged s) (get_or s.rates n 0) s.parents i (get_or s.entries n 0) loads (omega (arith, w.long)),
      )

      pub judging_live : Judging s (n + 1) next (found_with found n (get_or s.deadlines n 0) sum)
      judging_live = record {
        long = rw up.1 (carried_long (periods_judged s) (get_or s.rates n 0) (route s.parents (get_or s.entries n 0)) loads ∙ w.long);
        each = more;
        flow = go found (ltb (get_or s.deadlines n 0) sum) judged w.flow;
      }
        where
          go : (f : Option ℕ) (t : Bool) → late s n ≡ t → option_or f (some_below 64 (first_in (late s) 64 n)) ≡ some_below 64 (first_late s)
              → option_or (option_or f (cond t (Some n) None)) (some_below 64 (first_in (late s) 64 (n + 1))) ≡ some_below 64 (first_late s)
          go (Some m) t j e = e
          go None true j e = below_when 64 n few ∙ rw (first_hit (late s) 64 n few j) at e
          go None false j e = rw (← first_miss (late s) 64 n few j) e

  -- With all flows done the loads are those of the site, and no late flow is to come.
  judging_whole : (loads : List ℕ) (found : Option ℕ) → Judging s 64 loads found → ReservedAs s loads found
  unfolding load loads_of
  judging_whole loads found w = record {
    sums = ext_get_or 0 loads _ (w.long ∙ sym (length_listed (λ i. load s (i + 1)) 63 0))
        (λ k l. w.each k (omega (arith, w.long)) ∙ sym (get_or_listed (λ i. load s (i + 1)) 63 0 k (omega (arith, w.long)) ∙ rw zero-add));
    flow = go found (rw (first_end (late s) 64 64 (omega arith)) at w.flow);
  }
    where
      go : (f : Option ℕ) → option_or f (some_below 64 64) ≡ some_below 64 (first_late s) → f ≡ some_below 64 (first_late s)
      go (Some m) e = e
      go None e = e

  -- No flow from n on is live: then what is found below n is all that there is.
  pub judging_end : (r n : ℕ) (loads : List ℕ) (found : Option ℕ) → n + r ≡ 64 → ((k : ℕ) → n ≤ k → k < 64 → live s k ≡ false) → Judging s n loads found
      → ReservedAs s loads found
  judging_end zero n loads found e none w = let z : n ≡ 64 = omega arith in judging_whole loads found (rw z at w)
  judging_end (suc r) n loads found e none w =
      judging_end r (n + 1) loads found (omega arith) (λ k a b. none k (omega arith) b)
      (judging_idle n loads found (omega arith) w (none n (omega arith) (omega arith)))

  -- As where no live flow is left to meet.
  module _ (n left : ℕ) (loads : List ℕ) (found : Option ℕ) (w : Judging s n loads found) (more : Left s n left) (z : left ≡ 0) (few : n ≤ 64) where
    judging_left : ReservedAs s loads found
    judging_left = judging_end (64 - n) n loads found (omega arith) (none_left s n left more z) w

    pub sums_left : loads ≡ loads_of s
    sums_left = judging_left.sums

    pub late_left : found ≡ some_below 64 (first_late s)
    late_left = judging_left.flow

-- The load of a link in the list of all.
pub load_in : (s : Site) (loads : List ℕ) → loads ≡ loads_of s → (i : ℕ) → i < 63 → get_or loads i 0 ≡ load s (i + 1)
unfolding loads_of
load_in s loads e i l = rw e (get_or_listed (λ k. load s (k + 1)) 63 0 i l ∙ rw zero-add)

loads_long : (s : Site) → length (loads_of s) ≡ 63
unfolding loads_of
loads_long s = length_listed (λ i. load s (i + 1)) 63 0

-- What the library finds in a list that agrees with a test of numbers, from c on.
position_first : {A : Type 0} (p : A → Bool) (q : ℕ → Bool) (d : A) (xs : List A) (c : ℕ)
    → ((i : ℕ) → i < length xs → q (c + i) ≡ p (get_or xs i d)) → c + position_or_len p xs ≡ first q (length xs) c
unfolding first
position_first p q d [] c h = omega arith
position_first p q d (x ∷ xs) c h =
    go (p x) (rw add-zero at (h 0 (omega arith)))
    (position_first p q d xs (c + 1) (λ i l. let e : c + 1 + i ≡ c + suc i = omega arith in rw e (h (suc i) (omega arith))))
  where
    go : (t : Bool) → q c ≡ t → c + 1 + position_or_len p xs ≡ first q (length xs) (c + 1)
        → c + cond (not t) (1 + position_or_len p xs) 0 ≡ cond (q c) c (first q (length xs) (c + 1))
    go true e ih = rw e (omega arith)
    go false e ih = rw e (omega (arith, ih))

-- The first link of a site that is over its capacity, by a list of the loads.
pub over_found : (s : Site) (loads : List ℕ) → length s.capacities ≡ 63 → loads ≡ loads_of s
    → position (λ (x : ℕ × ℕ). ltb x.1 x.0) (take (used s.links) (zip loads s.capacities)) ≡ some_below (used s.links) (first_over s)
unfolding used first_over over
over_found s loads long sums =
    let few : length loads ≡ 63 = rw sums (loads_long s) in
    let both : length (zip loads s.capacities) ≡ 63 = omega (arith, length-zip loads s.capacities) in
    let all : length (take (min s.links 63) (zip loads s.capacities)) ≡ min s.links 63 = length-take-le _ _ (omega arith) in
    let found = position_first (λ (x : ℕ × ℕ). ltb x.1 x.0) (over s) (0, 0) (take (min s.links 63) (zip loads s.capacities)) 0 (λ i l. here i (omega arith)) in
    rw (all, ← zero-add (position_or_len _ _), found, all)
  where
    here : (i : ℕ) → i < min s.links 63 → over s (0 + i) ≡ ltb (get_or (take (min s.links 63) (zip loads s.capacities)) i (0, 0)).1 (get_or (take (min s.links 63) (zip loads s.capacities)) i (0, 0)).0
    here i l =
        let few : length loads ≡ 63 = rw sums (loads_long s) in
        rw (get_or-take (min s.links 63) (zip loads s.capacities) i (0, 0) l, get_or-zip loads s.capacities i (0, 0) (omega arith) (omega arith), load_in s loads sums i (omega arith), zero-add)

-- The way up of a flow with this rate, by a list of what the links carry, link by link.
module _ (capacities loads periods p : List ℕ) (rate n u : ℕ) where
  pub full_end : u ≡ up p n → n ≤ u → first_full capacities loads periods rate (route p n) ≡ 0
  unfolding first_full
  full_end e l = rw (route_end p n (rw e at l))

  pub full_up : u ≡ up p n → u < n → first_full capacities loads periods rate (route p n)
      ≡ cond (ltb (of_link capacities n) (get_or loads (n - 1) 0 + rate * of_link periods n)) n (first_full capacities loads periods rate (route p u))
  unfolding first_full width_at
  full_up e h = rw (e, route_up p n (rw e at h), link_in loads n (omega arith))

-- What the walks up a route need.
pub ruleset walking = (along_up, along_end, carried_up, carried_end, width_le, up_within)

pub ruleset unfitting = (full_up, full_end, width_le, up_within)

pub ruleset reserving = (sums_left, late_left)

-- With the loads of a site these are its own links without room.
module _ (s : Site) (rate : ℕ) (long : length s.parents ≡ 63) where
  pub full_unfit : (n : ℕ) → first_full s.capacities (loads_of s) (periods_judged s) rate (route s.parents n) ≡ first_unfit s rate (route s.parents n)
  unfolding first_full first_unfit unfit
  full_unfit =
      way_up s.parents (λ n. first_full s.capacities (loads_of s) (periods_judged s) rate (route s.parents n) ≡ first_unfit s rate (route s.parents n))
      (λ n l. rw (route_end s.parents n l))
      (λ n l ih. rw (route_up s.parents n l, carries n (omega arith) (omega (arith, long, up_within s.parents n l)), ih))
    where
      carries : (n : ℕ) → 1 ≤ n → n ≤ 63 → of_link (loads_of s) n ≡ load s n
      carries n a b = let one : n - 1 + 1 ≡ n = omega arith in sym (link_in (loads_of s) n a) ∙ load_in s (loads_of s) refl (n - 1) (omega arith) ∙ rw one

-- A flow number beyond the list enters at the root, whose route is empty.
pub delay_none : (s : Site) (n : ℕ) → length s.entries ≤ n → 0 ≡ delay_bound s n
unfolding delay_bound route_of along
delay_none s n l = rw (get_or-eq_default s.entries 0 {n = n} l, route_root s.parents)

-- The other flows keep what they kept.
module _ (s : Site) (n state entry rate deadline : ℕ) where
  width_other : (m k : ℕ) → (k ≡ n → ⊥) → width_on (with_fields s n state entry rate deadline) m k ≡ width_on s m k
  unfolding width_on live route_of periods_judged
  width_other m k h =
      rw (get_or-set_other s.states n k state 0 h, get_or-set_other s.entries n k entry 0 h, get_or-set_other s.rates n k rate 0 h)

  load_change : (m : ℕ) → n < 64
      → load (with_fields s n state entry rate deadline) m + width_on s m n ≡ load s m + width_on (with_fields s n state entry rate deadline) m n
  unfolding load
  load_change m l = sum_except (width_on (with_fields s n state entry rate deadline) m) (width_on s m) n 64 (width_other m) l

-- A live flow more, at a number that is not live.
module _ (s : Site) (f : Flow) (few : f.number < 64) (states_long : length s.states ≡ 64) (entries_long : length s.entries ≡ 64) where
  -- On each link of its route the load grows by its width.
  pub load_with : length s.rates ≡ 64 → live s f.number ≡ false → (m : ℕ)
      → load (with_flow s f) m ≡ load s m + cond (has m (route s.parents f.entry)) (width_at (periods_judged s) f.rate m) 0
  unfolding with_flow route_of periods_judged
  load_with rates-long dead m =
      let change = load_change s f.number 1 f.entry f.rate f.deadline m few in
      let before = width_none s m f.number dead in
      omega (arith, change, before, here)
    where
      here : width_on (with_flow s f) m f.number ≡ cond (has m (route s.parents f.entry)) (width_at (periods_judged s) f.rate m) 0
      here = width_live (with_flow s f) m f.number (live_here s f.number 1 f.entry f.rate f.deadline (omega arith))
          ∙ rw (get_or-set_same s.entries f.number f.entry 0 (omega arith), get_or-set_same s.rates f.number f.rate 0 (omega arith))

-- A flow less.
module _ (s : Site) (n : ℕ) (few : n < 64) (states_long : length s.states ≡ 64) where
  -- The load of each link falls by what the flow kept of it.
  pub load_taken : (m : ℕ) → load (without_flow s n) m + width_on s m n ≡ load s m
  unfolding without_flow
  load_taken m =
      let change = load_change s n 0 0 0 0 m few in
      let after = width_none (without_flow s n) m n (live_here s n 0 0 0 0 (omega arith)) in
      omega arith

  pub load_without : (m : ℕ) → load (without_flow s n) m ≤ load s m
  load_without m = omega (arith, load_taken m)
