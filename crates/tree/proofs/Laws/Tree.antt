-- The way from a node up to the root: its steps, its end, and what a route is. `p` is a list of parents.
use Prim.Native.Nat.{ℕ, zero, suc, ◌+◌, ◌-◌, ◌≤◌, ◌<◌}
use mathlib.Core.Path.{◌≡◌, refl, sym, ◌∙◌, ap}
use mathlib.Core.Bool.{Bool, true, false, cond, false≢true}
use mathlib.Core.List.{List, [], ◌∷◌}
use mathlib.Core.Logic.{◌⊎◌, inl, inr, ⊎_elim, ◌↔◌}
use lib.Dec.{eqb, ltb}
use lib.ListN.{length, get_or, get_or-eq_default}
use borrow.Author.Tests.{lt-ltb, le-ltb, eq-eqb, ltb-true, eqb-true}
use native.Mathlib.Omega.{arith}
use Rattle.std.specs.Option.{unwrap_or}
use Rattle.std.proofs.lemmas.Option.{unwrap_or-slice_get}
use Rattle.std.proofs.lemmas.List.{get_or_default}
use Rattle.lists.proofs.Laws.Search.{lt_or_le}
use Rattle.tree.specs.Tree.{of_link, up, entry_of, depth_in, depth_of, climb, route, has}
use Rattle.tree.specs.Words.{Leads, root, link}
use Rattle.rulings.proofs.Laws.Choices.{cond_same}

-- What a list has for a node, with a value for those that it has none for.
pub link_or : (xs : List ℕ) (n : ℕ) → unwrap_or (entry_of xs n) 0 ≡ of_link xs n
unfolding of_link
link_or xs zero = refl
link_or xs (suc i) = unwrap_or-slice_get xs i 0

pub up_or : (p : List ℕ) (n : ℕ) → unwrap_or (entry_of p n) n ≡ up p n
unfolding up
up_or p zero = refl
up_or p (suc i) = unwrap_or-slice_get p i (suc i)

-- Of a link of the list that is the entry one below its number.
pub link_in : (xs : List ℕ) (n : ℕ) → 0 < n → get_or xs (n - 1) 0 ≡ of_link xs n
unfolding of_link
link_in xs zero o = absurd (omega arith)
link_in xs (suc i) o = let e : suc i - 1 ≡ i = omega arith in rw e

module _ (p : List ℕ) where
  up_out : (n : ℕ) → 0 < n → length p ≤ n - 1 → n ≡ up p n
  unfolding up
  up_out zero o l = absurd (omega arith)
  up_out (suc i) o l = sym (get_or-eq_default p (suc i) {n = i} (omega arith))

  pub up_in : (n : ℕ) → 0 < n → n - 1 < length p → get_or p (n - 1) 0 ≡ up p n
  unfolding up
  up_in zero o l = absurd (omega arith)
  up_in (suc i) o l = let e : suc i - 1 ≡ i = omega arith in rw e (get_or_default p i 0 (suc i) (omega arith))

  -- Only a node of the list has a way up.
  pub up_within : (n : ℕ) → up p n < n → n ≤ length p
  up_within n h = go (lt_or_le (n - 1) (length p))
    where
      go : (n - 1 < length p) ⊎ (length p ≤ n - 1) → n ≤ length p
      go (inl l) = omega arith
      go (inr l) = absurd (omega (arith, up_out n (omega arith) l))

  -- Steps beyond the node's number change nothing.
  climb_fuel : (f g n : ℕ) → n ≤ f → n ≤ g → climb f p n ≡ climb g p n
  unfolding climb
  climb_fuel zero zero n a b = refl
  climb_fuel zero (suc g) n a b = simp (le-ltb (up p n) n (omega arith))
  climb_fuel (suc f) zero n a b = simp (le-ltb (up p n) n (omega arith))
  climb_fuel (suc f) (suc g) n a b =
      cond_same (ltb (up p n) n)
      (λ t. let l = ltb-true (up p n) n t in ap (λ (r : List ℕ). n ∷ r) (climb_fuel f g (up p n) (omega arith) (omega arith))) (λ t. refl)

  depth_climb : (f n : ℕ) → depth_in f p n ≡ length (climb f p n)
  unfolding climb depth_in
  depth_climb zero n = refl
  depth_climb (suc f) n = go (ltb (up p n) n) (depth_climb f (up p n))
    where
      go : (t : Bool) → depth_in f p (up p n) ≡ length (climb f p (up p n))
          → cond t (depth_in f p (up p n) + 1) 0 ≡ length (cond t (n ∷ climb f p (up p n)) [])
      go true e = omega (arith, e)
      go false e = refl

  -- A route is the node and its parent's route, and nothing where there is no way up.
  pub route_up : (n : ℕ) → up p n < n → route p n ≡ n ∷ route p (up p n)
  unfolding route climb
  route_up n h =
      climb_fuel n (suc n) n (omega arith) (omega arith) ∙ (simp (lt-ltb _ _ h))
      ∙ ap (λ (r : List ℕ). n ∷ r) (climb_fuel n (up p n) (up p n) (omega arith) (omega arith))

  pub route_end : (n : ℕ) → n ≤ up p n → route p n ≡ []
  unfolding route climb
  route_end n h = climb_fuel n (suc n) n (omega arith) (omega arith) ∙ simp (le-ltb _ _ h)

  pub route_root : route p 0 ≡ []
  unfolding route climb
  route_root = refl

  pub depth_route : (n : ℕ) → depth_of p n ≡ length (route p n)
  unfolding depth_of route
  depth_route n = depth_climb n n

  pub depth_up : (n : ℕ) → up p n < n → depth_of p n ≡ depth_of p (up p n) + 1
  depth_up n h = rw (depth_route n, depth_route (up p n), route_up n h) (omega arith)

  pub depth_end : (n : ℕ) → n ≤ up p n → depth_of p n ≡ 0
  depth_end n h = rw (depth_route n, route_end n h)

  -- What holds of each node without a way up, and of a node when it holds of its parent, holds of every node.
  pub way_up : (P : ℕ → Type 0) → ((n : ℕ) → n ≤ up p n → P n) → ((n : ℕ) → up p n < n → P (up p n) → P n) → (n : ℕ) → P n
  way_up P ends links n = go (suc n) n (omega arith)
    where
      go : (f n : ℕ) → n < f → P n
      go zero n h = absurd (omega arith)
      go (suc f) n h = ⊎_elim (λ l. links n l (go f (up p n) (omega arith))) (ends n) (lt_or_le (up p n) n)

  pub depth_le : (n : ℕ) → depth_of p n ≤ n
  depth_le = way_up (λ n. depth_of p n ≤ n) (λ n l. omega (arith, depth_end n l)) (λ n l ih. omega (arith, depth_up n l, ih))

  -- A route has only nodes of the list, from the node down, and not the root.
  pub route_within : (m n : ℕ) → has m (route p n) ≡ true → (1 ≤ m) × (m ≤ n) × (m ≤ length p)
  unfolding has
  route_within m =
      way_up (λ n. has m (route p n) ≡ true → (1 ≤ m) × (m ≤ n) × (m ≤ length p)) (λ n l t. absurd (false≢true (rw (route_end n l) at t)))
      (λ n l ih t. go n l ih (eqb n m) refl (rw (route_up n l) at t))
    where
      go : (n : ℕ) → up p n < n → (has m (route p (up p n)) ≡ true → (1 ≤ m) × (m ≤ up p n) × (m ≤ length p)) → (b : Bool) → eqb n m ≡ b
          → cond b true (has m (route p (up p n))) ≡ true → (1 ≤ m) × (m ≤ n) × (m ≤ length p)
      go n l ih true e t = let q : n ≡ m = eqb-true n m e in (omega arith, omega arith, omega (arith, up_within n l))
      go n l ih false e t = let w : (1 ≤ m) × (m ≤ up p n) × (m ≤ length p) = ih t in (w.0, omega (arith, w.1), w.2)

  -- The node itself is the largest number of its route.
  route_head : (n : ℕ) → get_or (route p n) 0 0 ≤ n
  route_head n = ⊎_elim (λ l. rw (route_up n l) (omega arith)) (λ l. rw (route_end n l) (omega arith)) (lt_or_le (up p n) n)

  -- The numbers of a route fall.
  pub route_falls : (n j : ℕ) → j + 1 < length (route p n) → get_or (route p n) (j + 1) 0 < get_or (route p n) j 0
  route_falls =
      way_up (λ n. (j : ℕ) → j + 1 < length (route p n) → get_or (route p n) (j + 1) 0 < get_or (route p n) j 0)
      (λ n l j h. absurd (omega (arith, rw (route_end n l) at h))) (λ n l ih j h. rw (route_up n l) (go n l ih j (rw (route_up n l) at h)))
    where
      go : (n : ℕ) → up p n < n → ((j : ℕ) → j + 1 < length (route p (up p n)) → get_or (route p (up p n)) (j + 1) 0 < get_or (route p (up p n)) j 0)
          → (j : ℕ) → j + 1 < length (n ∷ route p (up p n)) → get_or (n ∷ route p (up p n)) (j + 1) 0 < get_or (n ∷ route p (up p n)) j 0
      go n l ih zero h = omega (arith, route_head (up p n))
      go n l ih (suc j) h = let e : suc j + 1 ≡ suc (j + 1) = omega arith in rw e (ih j (omega arith))

-- A route has a link just when it stands at some place of it.
has_found : (m : ℕ) (ms : List ℕ) → has m ms ≡ true → (j : ℕ) × (j < length ms) × (get_or ms j 0 ≡ m)
unfolding has
has_found m [] e = absurd (false≢true e)
has_found m (k ∷ ms) e = go (eqb k m) refl e (has_found m ms)
  where
    go : (t : Bool) → eqb k m ≡ t → cond t true (has m ms) ≡ true → (has m ms ≡ true → (j : ℕ) × (j < length ms) × (get_or ms j 0 ≡ m))
        → (j : ℕ) × (j < suc (length ms)) × (get_or (k ∷ ms) j 0 ≡ m)
    go true q e f = (0, omega arith, eqb-true k m q)
    go false q e f = let w = f e in (suc w.0, omega (arith, w.1), w.2)

has_met : (m : ℕ) (ms : List ℕ) (j : ℕ) → j < length ms → get_or ms j 0 ≡ m → has m ms ≡ true
unfolding has
has_met m [] j l e = absurd (omega arith)
has_met m (k ∷ ms) zero l e = simp (eq-eqb k m e)
has_met m (k ∷ ms) (suc j) l e = rw (has_met m ms j (omega arith) e) (either (eqb k m))
  where
    either : (t : Bool) → cond t true true ≡ true
    either true = refl
    either false = refl

pub has_when : (m : ℕ) (ms : List ℕ) → (has m ms ≡ true) ↔ ((j : ℕ) × (j < length ms) × (get_or ms j 0 ≡ m))
has_when m ms = (has_found m ms, λ w. has_met m ms w.0 w.1 w.2)

-- So no link of a route is the root's.
pub route_some : (p : List ℕ) (n j : ℕ) → j < length (route p n) → 1 ≤ get_or (route p n) j 0
route_some p n j l = (route_within p _ n (has_met _ (route p n) j l refl)).0

-- Where every number up to n but the root's has a parent with a smaller number, n's route reaches the root.
pub route_leads : (p : List ℕ) (n : ℕ) → ((m : ℕ) → 1 ≤ m → m ≤ n → up p m < m) → Leads p n (route p n)
route_leads p =
    way_up p (λ n. ((m : ℕ) → 1 ≤ m → m ≤ n → up p m < m) → Leads p n (route p n)) (λ n l h. rw (route_end p n l) (ends n l h))
    (λ n l ih h. rw (route_up p n l) (link n _ l (ih (λ m a b. h m a (omega arith)))))
  where
    ends : (n : ℕ) → n ≤ up p n → ((m : ℕ) → 1 ≤ m → m ≤ n → up p m < m) → Leads p n []
    ends zero l h = root
    ends (suc i) l h = absurd (omega (arith, h (suc i) (omega arith) (omega arith)))

-- A route is told by the parents of the numbers up to its node.
module _ (p q : List ℕ) where
  route_same : (n : ℕ) → ((m : ℕ) → m ≤ n → up p m ≡ up q m) → route p n ≡ route q n
  route_same =
      way_up p (λ n. ((m : ℕ) → m ≤ n → up p m ≡ up q m) → route p n ≡ route q n)
      (λ n l h. route_end p n l ∙ sym (route_end q n (omega (arith, h n (omega arith)))))
      (λ n l ih h. rw (route_up p n l, route_up q n (omega (arith, h n (omega arith))), ← h n (omega arith)) (rw (ih (λ m k. h m (omega arith)))))

  pub depth_same : (n : ℕ) → ((m : ℕ) → m ≤ n → up p m ≡ up q m) → depth_of p n ≡ depth_of q n
  depth_same n h = rw (depth_route p n, depth_route q n, route_same n h)

-- What the depth of a node needs.
pub ruleset depths = (depth_end, depth_up, depth_le)
