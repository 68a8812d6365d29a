-- The code that moves packets: the periods of the links that send, the way up a flow's route, and the loop over the flows.
use Prim.Native.Nat.{ℕ, zero, suc, ◌+◌, ◌-◌, ◌*◌, ◌≤◌, ◌<◌, min}
use mathlib.Core.Path.{◌≡◌, refl, sym, ◌∙◌, ap}
use mathlib.Core.Bool.{Bool, true, false, cond}
use mathlib.Core.List.{List, [], ◌∷◌, ◌++◌, append_assoc, append-nil}
use mathlib.Core.Logic.{◌⊎◌, inl, inr}
use lib.ListN.{length, get_or, take, drop, set, replicate, length-set, length-append, length-take, length-drop, drop_of_length-le}
use lib.Seq.{drop-cons, take-suc-set, drop-set-lt, append_snoc, get_or-set_same, get_or-set_other, drop-drop, take-add, take_at, drop_at, take_all, length-take-le}
use borrow.Author.Count.{below_more}
use borrow.Author.Tests.{lt-ltb, le-leb, lt-leb, eq-eqb}
use native.Mathlib.Nat.{mul-zero}
use native.Mathlib.Numerals.{add-one}
use native.Mathlib.Omega.{arith}
use Rattle.lists.specs.Lists.{total, joined}
use Rattle.slot_rule.specs.Rule.{sends}
use Rattle.lists.proofs.Laws.Search.{lt_or_le}
use Rattle.lists.proofs.Laws.Items.{joined_more}
use Rattle.lists.proofs.Laws.Listed.{get_or_replicated}
use Rattle.site.specs.declared.Site.{Site}
use Rattle.site.specs.Sites.{used, live}
use Rattle.site.proofs.Laws.Flows.{none_left}
use Rattle.tree.specs.Tree.{of_link, up, route}
use Rattle.reservations.specs.Reservations.{periods_judged, route_of, width_at}
use Rattle.reservations.proofs.Laws.Reservations.{width_le}
use Rattle.tree.proofs.Laws.Tree.{up_within, route_up, route_end, way_up}
use Rattle.schedule.specs.Schedule.{link_sends}
use Rattle.counters.specs.Blocks.{block, cells_of}
use Rattle.counters.proofs.Laws.{length_block, block_lent}
use Rattle.queues.specs.Cells.{Hop, moved, arrived, delivering, passed, step}
use Rattle.queues.proofs.Laws.Cells.{moved_most, get_or_total, total_set, length_step}
use Rattle.moves.specs.Hops.{Service, own, hops_along, hops_of}
use Rattle.moves.specs.Moves.{cells_after}
use Rattle.moves.specs.Inner.{period_in, PeriodsIn, in_slot, hops_in, Movable, AllMovable}

-- The list of the periods of links that send, of which the first i entries are in; the others are 0 still.
pub record Sending (s : Site) (t i : ℕ) (xs : List ℕ) : Type 0 where
  pub long : length xs ≡ 63
  pub done : (k : ℕ) → k < i → get_or xs k 0 ≡ period_in s t (suc k)
  pub rest : (k : ℕ) → i ≤ k → get_or xs k 0 ≡ 0

module _ (s : Site) (t : ℕ) where
  pub sending_start : Sending s t 0 (replicate 63 0)
  sending_start = record { long = refl; done = λ k l. absurd (omega arith); rest = λ k l. get_or_replicated 63 k 0 }

  -- The link of index i by its own entries.
  link_is : (i : ℕ) → i < used s.links → link_sends s (suc i) t ≡ sends (get_or s.periods i 0) (get_or s.offsets i 0) t
  unfolding link_sends used of_link
  link_is i l = rw (lt-ltb 0 (suc i) (omega arith), le-leb (suc i) s.links (omega arith))

  module _ (i : ℕ) (xs : List ℕ) (w : Sending s t i xs) (l : i < used s.links) (b : Bool)
      (e : b ≡ sends (get_or s.periods i 0) (get_or s.offsets i 0) t) where
    pub sending_yes : b ≡ true → Sending s t (i + 1) (set xs i (get_or (periods_judged s) i 0))
    unfolding period_in of_link used
    sending_yes q = record {
      long = length-set xs i _ ∙ w.long;
      done = below_more _ i
          (λ k m. get_or-set_other xs i k (get_or (periods_judged s) i 0) 0 (λ z. omega arith) ∙ w.done k m)
          (get_or-set_same xs i (get_or (periods_judged s) i 0) 0 (omega (arith, w.long)) ∙ rw (link_is i l, ← e, q));
      rest = λ k m. get_or-set_other xs i k (get_or (periods_judged s) i 0) 0 (λ z. omega arith) ∙ w.rest k (omega arith);
    }

    pub sending_no : b ≡ false → Sending s t (i + 1) xs
    unfolding period_in
    sending_no q = record {
      long = w.long;
      done = below_more _ i w.done (w.rest i (omega arith) ∙ rw (link_is i l, ← e, q));
      rest = λ k m. w.rest k (omega arith);
    }

  pub sending_end : (i : ℕ) (xs : List ℕ) → Sending s t i xs → i ≡ used s.links → PeriodsIn s t xs
  unfolding period_in of_link link_sends used
  sending_end i xs w e = record { each = each }
    where
      past : (k : ℕ) → i ≤ k → k < 63 → link_sends s (suc k) t ≡ false
      past k m h = rw (lt-ltb 0 (suc k) (omega arith), lt-leb (suc k) s.links (omega arith))

      each : (node : ℕ) → node ≤ 63 → of_link xs node ≡ cond (link_sends s node t) (of_link (periods_judged s) node) 0
      each zero h = refl
      each (suc k) h = go (lt_or_le k i)
        where
          go : (k < i) ⊎ (i ≤ k) → get_or xs k 0 ≡ cond (link_sends s (suc k) t) (get_or (periods_judged s) k 0) 0
          go (inl m) = w.done k m
          go (inr m) = w.rest k m ∙ rw (past k m (omega arith))

-- By that list every flow moves what it moves by the site's own schedule, since a route has only nodes of the list of parents.
module _ (s : Site) (t : ℕ) (sending : List ℕ) (w : PeriodsIn s t sending) where
  moved_as : (rate node q : ℕ) → node ≤ 63 → moved (in_slot sending rate node) 0 q ≡ moved (own s rate node) t q
  unfolding moved width_at period_in
  moved_as rate node q l = rw (w.each node l) (go (link_sends s node t))
    where
      go : (b : Bool) → min q (rate * cond b (of_link (periods_judged s) node) 0) ≡ cond b (min q (rate * of_link (periods_judged s) node)) 0
      go true = refl
      go false = rw mul-zero (omega arith)

  module _ (p : List ℕ) (few : length p ≤ 63) (rate : ℕ) where
    passed_as : (entry coming : ℕ) (cs : List ℕ)
        → passed (hops_along (in_slot sending rate) (route p entry)) 0 coming cs ≡ passed (hops_along (own s rate) (route p entry)) t coming cs
    unfolding hops_along passed
    passed_as =
        way_up p
        (λ n. (coming : ℕ) (cs : List ℕ)
        → passed (hops_along (in_slot sending rate) (route p n)) 0 coming cs ≡ passed (hops_along (own s rate) (route p n)) t coming cs)
        (λ n l coming cs. rw (route_end p n l)) (λ n l above coming cs. rw (route_up p n l) (go n l above coming cs))
      where
        go : (n : ℕ) → up p n < n
            → ((coming : ℕ) (cs : List ℕ)
            → passed (hops_along (in_slot sending rate) (route p (up p n))) 0 coming cs ≡ passed (hops_along (own s rate) (route p (up p n))) t coming cs)
            → (coming : ℕ) (cs : List ℕ)
            → passed (hops_along (in_slot sending rate) (n ∷ route p (up p n))) 0 coming cs ≡ passed (hops_along (own s rate) (n ∷ route p (up p n))) t coming cs
        go n l above coming [] = refl
        go n l above coming (q ∷ cs) =
            rw (moved_as rate n q (omega (arith, up_within p n l)))
            (ap (λ (r : List ℕ). (q - moved (own s rate n) t q + coming) ∷ r) (above (moved (own s rate n) t q) cs))

    step_as : (entry x : ℕ) (cs : List ℕ) → step (hops_in p sending rate entry) 0 x cs ≡ step (hops_along (own s rate) (route p entry)) t x cs
    unfolding step
    step_as entry x cs = passed_as entry 0 (arrived x cs)

-- The cells after the slot, from those in which the first k hops have moved already.
unfoldable pub onward : List Hop → ℕ → ℕ → ℕ → List ℕ → List ℕ
onward hs t k coming cs = take k cs ++ passed hs t coming (drop k cs)

-- Packets join the last of n + 1 cells, behind the first k.
delivering_at : (x k n : ℕ) (cs : List ℕ) → k ≤ n → length cs ≡ suc n → take k cs ++ delivering x (drop k cs) ≡ set cs n (get_or cs n 0 + x)
unfolding delivering
delivering_at x k n [] l e = absurd (omega arith)
delivering_at x zero zero (c ∷ []) l e = refl
delivering_at x zero zero (c ∷ d ∷ cs) l e = absurd (omega arith)
delivering_at x zero (suc n) (c ∷ []) l e = absurd (omega arith)
delivering_at x zero (suc n) (c ∷ d ∷ cs) l e = ap (λ (r : List ℕ). c ∷ r) (delivering_at x zero n (d ∷ cs) (omega arith) (omega arith))
delivering_at x (suc k) zero (c ∷ cs) l e = absurd (omega arith)
delivering_at x (suc k) (suc n) (c ∷ cs) l e = ap (λ (r : List ℕ). c ∷ r) (delivering_at x k n cs (omega arith) (omega arith))

onward_more : (h : Hop) (hs : List Hop) (t k coming : ℕ) (cs : List ℕ) → k < length cs
    → onward (h ∷ hs) t k coming cs ≡ onward hs t (k + 1) (moved h t (get_or cs k 0)) (set cs k (get_or cs k 0 - moved h t (get_or cs k 0) + coming))
unfolding onward passed
onward_more h hs t k coming cs l =
    let v = get_or cs k 0 - moved h t (get_or cs k 0) + coming in
    rw (drop-cons cs k 0 l, add-one, take-suc-set cs k v l, drop-set-lt (suc k) cs k v (omega arith)) (simp append_snoc)

-- No cells, nothing moved.
passed_none : (hs : List Hop) (t coming : ℕ) → passed hs t coming [] ≡ []
unfolding passed delivering
passed_none [] t coming = refl
passed_none (h ∷ hs) t coming = refl

-- On the way up a route: `node` is next, its queue is cell k, and `goal` is to come out.
pub record Moving (hop : ℕ → Hop) (p : List ℕ) (t : ℕ) (goal cs : List ℕ) (coming k node : ℕ) : Type 0 where
  pub nine : length cs ≡ 9
  pub room : k ≤ 9
  pub fits : total cs + coming ≤ 4294967295
  pub rest : goal ≡ onward (hops_along hop (route p node)) t k coming cs

module _ (hop : ℕ → Hop) (p : List ℕ) (t : ℕ) where
  -- The arrival joins the first cell.
  pub moving_start : (x v node : ℕ) (cs : List ℕ) → Movable cs x → v ≡ get_or cs 0 0 + x
      → Moving hop p t (step (hops_along hop (route p node)) t x cs) (set cs 0 v) 0 0 node
  unfolding step onward arrived
  moving_start x v node cs m e = record {
    nine = length-set cs 0 v ∙ m.nine;
    room = omega arith;
    fits = omega (arith, m.fits, total_set cs 0 v (omega (arith, m.nine)));
    rest = joining cs m.nine e;
  }
    where
      joining : (ds : List ℕ) → length ds ≡ 9 → v ≡ get_or ds 0 0 + x
          → passed (hops_along hop (route p node)) t 0 (arrived x ds) ≡ passed (hops_along hop (route p node)) t 0 (set ds 0 v)
      joining [] l q = absurd (omega arith)
      joining (d ∷ ds) l q = rw q

  module _ (goal cs : List ℕ) (coming k node : ℕ) (w : Moving hop p t goal cs coming k node) where
    -- There is room for what comes to a queue.
    pub moving_fits : get_or cs k 0 + coming ≤ 4294967295
    moving_fits = omega (arith, w.fits, get_or_total cs k)

    -- Behind the last cell nothing is left to move.
    pub moving_out : 9 ≤ k → cs ≡ goal
    unfolding onward
    moving_out l =
        let end : k ≡ 9 = omega (arith, w.room) in
        sym (w.rest ∙ rw (end, take_all 9 cs (omega (arith, w.nine)), drop_of_length-le cs {i = 9} (omega (arith, w.nine)))
        (ap (λ (r : List ℕ). cs ++ r) (passed_none (hops_along hop (route p node)) t coming) ∙ append-nil cs))

    module _ (u : ℕ) (e : u ≡ up p node) where
      next : u < node → route p node ≡ node ∷ route p u
      next l = rw e (route_up p node (rw e at l))

      pub moving_more : k < 9 → u < node → (m : ℕ) → m ≡ moved (hop node) t (get_or cs k 0)
          → Moving hop p t goal (set cs k (get_or cs k 0 + coming - m)) m (k + 1) u
      unfolding hops_along
      moving_more few l m q =
          let most : m ≤ get_or cs k 0 = rw q (moved_most (hop node) t (get_or cs k 0)) in
          let here : k < length cs = omega (arith, w.nine) in
          let v : get_or cs k 0 + coming - m ≡ get_or cs k 0 - m + coming = omega arith in
          record {
            nine = length-set cs k _ ∙ w.nine;
            room = omega arith;
            fits = omega (arith, w.fits, total_set cs k (get_or cs k 0 + coming - m) here);
            rest = w.rest ∙ rw (next l, v, q) (onward_more (hop node) (hops_along hop (route p u)) t k coming cs here);
          }

      pub moving_end : k < 9 → node ≤ u → set cs 8 (get_or cs 8 0 + coming) ≡ goal
      unfolding onward passed hops_along
      moving_end few l =
          let none : route p node ≡ [] = route_end p node (rw e at l) in
          sym (w.rest ∙ rw none (delivering_at coming k 8 cs (omega arith) w.nine))

-- A link in the one slot that the list is for moves the smaller of queue and width.
pub moved_in : (sending : List ℕ) (rate node q r g m : ℕ) → r ≡ rate → g ≡ of_link sending node → m ≡ min q (r * g) → m ≡ moved (in_slot sending rate node) 0 q
unfolding moved width_at
moved_in sending rate node q r g m d e f = rw (f, d, e)

-- A flow has nine cells after a slot as before.
pub length_after : (v : Service) (s : Site) (cs xs : List ℕ) (t k : ℕ) → 9 * k + 9 ≤ length cs → length (cells_after v s cs xs t k) ≡ 9
unfolding cells_after cells_of
length_after v s cs xs t k l = go (live s k)
  where
    go : (b : Bool) → length (cond b (step (hops_of v s k) t (get_or xs k 0) (block 9 k cs)) (block 9 k cs)) ≡ 9
    go true = length_step (hops_of v s k) t (get_or xs k 0) (block 9 k cs) ∙ length_block 9 k cs l
    go false = length_block 9 k cs l

-- The loop over the flows: the numbers from n on have the cells of the start.
pub record Kept (cs₀ cs : List ℕ) (n : ℕ) : Type 0 where
  pub most : n ≤ 64
  pub long : length cs ≡ 576
  pub rest : drop (9 * n) cs ≡ drop (9 * n) cs₀

pub kept_start : (cs : List ℕ) → length cs ≡ 576 → Kept cs cs 0
kept_start cs l = record { most = omega arith; long = l; rest = refl }

-- And those below n have had their slot.
pub record Stepped (s : Site) (t : ℕ) (cs₀ xs cs : List ℕ) (n : ℕ) : Type 0 where
  pub done : take (9 * n) cs ≡ joined (cells_after own s cs₀ xs t) n 0

pub stepped_start : (s : Site) (t : ℕ) (cs xs : List ℕ) → Stepped s t cs xs cs 0
unfolding joined
stepped_start s t cs xs = record { done = refl }

module _ (cs₀ cs : List ℕ) (n : ℕ) (w : Kept cs₀ cs n) (l : n < 64) where
  -- What is lent on is flow n's cells of the start.
  cells_lent : take (9 * n + 9 - 9 * n) (drop (9 * n) cs) ≡ cells_of n cs₀
  unfolding cells_of block
  cells_lent = block_lent 9 n cs ∙ rw w.rest

  pub kept_ready : (states xs : List ℕ) → AllMovable states cs₀ xs → get_or states n 0 ≡ 1 → Movable (take (9 * n + 9 - 9 * n) (drop (9 * n) cs)) (get_or xs n 0)
  kept_ready states xs m on = rw cells_lent (m.each n l on)

  pub kept_dead : Kept cs₀ cs (n + 1)
  kept_dead =
      let end : 9 * (n + 1) ≡ 9 * n + 9 = omega arith in
      record { most = omega arith; long = w.long; rest = rw (end, ← drop-drop 9 (9 * n) cs, ← drop-drop 9 (9 * n) cs₀, w.rest) }

  module _ (hs : List Hop) (x : ℕ) (ys : List ℕ) (e : ys ≡ step hs 0 x (take (9 * n + 9 - 9 * n) (drop (9 * n) cs))) where
    front : length (take (9 * n) cs ++ ys) ≡ 9 * (n + 1)
    front = rw (length-append, length-take-le (9 * n) cs (omega (arith, w.long)), e, length_step, length-take, length-drop, w.long) (omega arith)

    put : take (9 * n) cs ++ (ys ++ drop (9 * n + 9 - 9 * n) (drop (9 * n) cs)) ≡ (take (9 * n) cs ++ ys) ++ drop (9 * (n + 1)) cs
    put =
        let size : 9 * n + 9 - 9 * n ≡ 9 = omega arith in let end : 9 * (n + 1) ≡ 9 * n + 9 = omega arith in
        rw (size, end, drop-drop 9 (9 * n) cs) (sym (append_assoc (take (9 * n) cs) ys (drop (9 * n + 9) cs)))

    pub kept_live : Kept cs₀ (take (9 * n) cs ++ (ys ++ drop (9 * n + 9 - 9 * n) (drop (9 * n) cs))) (n + 1)
    kept_live = record {
      most = omega arith;
      long = rw (put, length-append, front, length-drop, w.long) (omega arith);
      rest = rw put (drop_at (take (9 * n) cs ++ ys) (drop (9 * (n + 1)) cs) (9 * (n + 1)) front ∙ kept_dead.rest);
    }

module _ (s : Site) (t : ℕ) (cs₀ xs cs : List ℕ) (n : ℕ) (w : Kept cs₀ cs n) (v : Stepped s t cs₀ xs cs n) where
  pub stepped_live : n < 64 → get_or s.states n 0 ≡ 1 → (sending ys : List ℕ) → PeriodsIn s t sending → length s.parents ≡ 63
      → ys ≡ step (hops_in s.parents sending (get_or s.rates n 0) (get_or s.entries n 0)) 0 (get_or xs n 0) (take (9 * n + 9 - 9 * n) (drop (9 * n) cs))
      → Stepped s t cs₀ xs (take (9 * n) cs ++ (ys ++ drop (9 * n + 9 - 9 * n) (drop (9 * n) cs))) (n + 1)
  unfolding cells_after hops_of route_of live
  stepped_live l on sending ys g long q = record {
    done = rw (put cs₀ cs n w l _ _ ys q) (take_at (take (9 * n) cs ++ ys) _ (9 * (n + 1)) (front cs₀ cs n w l _ _ ys q)
        ∙ rw (v.done, joined_more (cells_after own s cs₀ xs t) n, q, step_as s t sending g s.parents (omega arith), cells_lent cs₀ cs n w l, eq-eqb _ _ on));
  }

  pub stepped_dead : n < 64 → live s n ≡ false → Stepped s t cs₀ xs cs (n + 1)
  unfolding cells_after
  stepped_dead l off =
      let end : 9 * (n + 1) ≡ 9 * n + 9 = omega arith in
      let size : 9 * n + 9 - 9 * n ≡ 9 = omega arith in
      record { done = rw (end, take-add (9 * n) 9 cs, v.done, joined_more (cells_after own s cs₀ xs t) n, off, ← cells_lent cs₀ cs n w l, size) }

-- Where no number from n on is live, that is all.
module _ (s : Site) (t : ℕ) (cs₀ xs cs : List ℕ) where
  stepped_rest : (r n : ℕ) → n + r ≡ 64 → Kept cs₀ cs n → Stepped s t cs₀ xs cs n → ((k : ℕ) → n ≤ k → k < 64 → live s k ≡ false)
      → cs ≡ joined (cells_after own s cs₀ xs t) 64 0
  stepped_rest zero n e w v none = let end : n ≡ 64 = omega arith in sym (take_all 576 cs (omega (arith, w.long))) ∙ rw end at v.done
  stepped_rest (suc r) n e w v none =
      stepped_rest r (n + 1) (omega arith) (kept_dead cs₀ cs n w (omega arith))
      (stepped_dead s t cs₀ xs cs n w v (omega arith) (none n (omega arith) (omega arith))) (λ k lo hi. none k (omega arith) hi)

  pub stepped_end : (n : ℕ) → Kept cs₀ cs n → Stepped s t cs₀ xs cs n → ((k : ℕ) → n ≤ k → k < 64 → live s k ≡ false)
      → cs ≡ joined (cells_after own s cs₀ xs t) 64 0
  stepped_end n w = stepped_rest (64 - n) n (omega (arith, w.most)) w

-- What the functions of src/lib.rt are proved by.
pub ruleset moving_rules = (get_or_total, moving_fits, width_le)

pub ruleset stepped_rules = (kept_start, kept_ready, stepped_start, stepped_end, none_left)
