-- Flows of a site: which are live, how many, and what a change at one number leaves.
use Prim.Native.Nat.{ℕ, zero, suc, ◌+◌, ◌-◌, ◌≤◌, ◌<◌}
use mathlib.Core.Path.{◌≡◌, refl, sym, ◌∙◌}
use mathlib.Core.Bool.{Bool, true, false, cond}
use mathlib.Core.Logic.{◌⊎◌, inl, inr}
use lib.ListN.{length, get_or, get_or-eq_default}
use native.Mathlib.Nat.{eq-or-lt_of_le}
use native.Mathlib.Omega.{arith}
use Rattle.site.specs.declared.Site.{Site}
use Rattle.site.specs.Sites.{live, flow_count, with_fields, with_flow}
use Rattle.lists.specs.Lists.{sum_to}
use borrow.Author.Tests.{ne_eqb}
use native.Mathlib.Numerals.{add-one}
use lib.Dec.{eqb}
use lib.Seq.{get_or-set_same, set_out}
use Rattle.site.specs.declared.Flow.{Flow}

-- At most 64 flows are counted.
ones_few : (s : Site) (n : ℕ) → sum_to (λ m. cond (live s m) 1 0) n ≤ n
unfolding sum_to
ones_few s zero = omega arith
ones_few s (suc n) = go (live s n) (ones_few s n)
  where
    go : (t : Bool) → sum_to (λ m. cond (live s m) 1 0) n ≤ n → sum_to (λ m. cond (live s m) 1 0) n + cond t 1 0 ≤ suc n
    go true l = omega arith
    go false l = omega arith

pub flows_few : (s : Site) → flow_count s ≤ 64
unfolding flow_count
flows_few s = ones_few s 64

-- The live flows below n are so many.
pub record Counted (s : Site) (n count : ℕ) : Type 0 where
  pub few : count ≤ n
  pub is : count ≡ sum_to (λ m. cond (live s m) 1 0) n

pub counted_start : (s : Site) → Counted s 0 0
unfolding sum_to
counted_start s = record { few = omega arith; is = refl }

sum_next : (s : Site) (n one : ℕ) → cond (live s n) 1 0 ≡ one → sum_to (λ m. cond (live s m) 1 0) (n + 1) ≡ sum_to (λ m. cond (live s m) 1 0) n + one
unfolding sum_to
sum_next s n one e = rw (add-one n, e)

pub counted_live : (s : Site) (n count m : ℕ) → Counted s n count → get_or s.states n 0 ≡ 1 → m ≡ count + 1 → Counted s (n + 1) m
unfolding live
counted_live s n count m c e q = record { few = omega (arith, c.few); is = q ∙ rw c.is (sym (sum_next s n 1 (rw e))) }

pub counted_idle : (s : Site) (n count m : ℕ) → Counted s n count → (get_or s.states n 0 ≡ 1 → ⊥) → m ≡ count → Counted s (n + 1) m
unfolding live
counted_idle s n count m c e q = record { few = omega (arith, c.few); is = q ∙ rw c.is (omega (arith, sum_next s n 0 (rw (ne_eqb _ _ e)))) }

pub counted_end : (s : Site) (n count : ℕ) → Counted s n count → n ≡ 64 → count ≡ flow_count s
unfolding flow_count
counted_end s n count c e = c.is ∙ rw e

-- The live flows from n on are so many, so that a loop that counts them down ends behind the last of them.
pub record Left (s : Site) (n left : ℕ) : Type 0 where
  pub all : sum_to (λ m. cond (live s m) 1 0) n + left ≡ flow_count s

pub left_start : (s : Site) (left : ℕ) → left ≡ flow_count s → Left s 0 left
unfolding sum_to
left_start s left e = record { all = omega (arith, e) }

pub left_live : (s : Site) (n left m : ℕ) → Left s n left → get_or s.states n 0 ≡ 1 → 0 < left → m ≡ left - 1 → Left s (n + 1) m
unfolding live
left_live s n left m w e l q = record { all = omega (arith, w.all, sum_next s n 1 (rw e)) }

pub left_idle : (s : Site) (n left m : ℕ) → Left s n left → (get_or s.states n 0 ≡ 1 → ⊥) → m ≡ left → Left s (n + 1) m
unfolding live
left_idle s n left m w e q = record { all = omega (arith, w.all, sum_next s n 0 (rw (ne_eqb _ _ e))) }

ones_rise : (s : Site) (n k : ℕ) → n ≤ k → sum_to (λ m. cond (live s m) 1 0) n ≤ sum_to (λ m. cond (live s m) 1 0) k
unfolding sum_to
ones_rise s n zero l = let e : n ≡ 0 = omega arith in rw e (omega arith)
ones_rise s n (suc k) l = go (eq-or-lt_of_le l) (ones_rise s n k)
  where
    go : (n ≡ suc k) ⊎ (n < suc k) → (n ≤ k → sum_to (λ m. cond (live s m) 1 0) n ≤ sum_to (λ m. cond (live s m) 1 0) k)
        → sum_to (λ m. cond (live s m) 1 0) n ≤ sum_to (λ m. cond (live s m) 1 0) (suc k)
    go (inl e) lower = rw e (omega arith)
    go (inr h) lower = omega (arith, lower (omega arith))

-- Where none is left, none to come is live.
pub none_left : (s : Site) (n left : ℕ) → Left s n left → left ≡ 0 → (k : ℕ) → n ≤ k → k < 64 → live s k ≡ false
unfolding flow_count
none_left s n left w z k lo hi = go (live s k) refl
  where
    go : (t : Bool) → live s k ≡ t → t ≡ false
    go true e = absurd (omega (arith, w.all, ones_rise s n k lo, ones_rise s (k + 1) 64 (omega arith), sum_next s k 1 (rw e)))
    go false e = refl

-- A number that the list of states has not is not live.
pub dead_beyond : (s : Site) (n : ℕ) → length s.states ≤ n → false ≡ live s n
unfolding live
dead_beyond s n l = rw (get_or-eq_default s.states 0 {n = n} l)

-- A site with other fields at flow number n: past the lists nothing changes, and within them the number is live by its new state.
module _ (s : Site) (n state entry rate deadline : ℕ) where
  pub fields_out : length s.states ≤ n → length s.entries ≤ n → length s.rates ≤ n → length s.deadlines ≤ n
      → s ≡ with_fields s n state entry rate deadline
  fields_out a b c d =
      sym (rw (set_out s.states n state a, set_out s.entries n entry b, set_out s.rates n rate c, set_out s.deadlines n deadline d))

  pub live_here : n < length s.states → live (with_fields s n state entry rate deadline) n ≡ eqb state 1
  unfolding live
  live_here l = rw (get_or-set_same s.states n state 0 l)

-- A flow that is taken in is live.
pub live_with : (s : Site) (f : Flow) → f.number < length s.states → live (with_flow s f) f.number ≡ true
unfolding with_flow
live_with s f l = live_here s f.number 1 f.entry f.rate f.deadline l
