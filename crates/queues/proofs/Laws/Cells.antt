-- What a slot does to the number of cells, to their sum and to the last of them.
use Prim.Native.Nat.{ℕ, zero, suc, ◌+◌, ◌≤◌, ◌<◌, min}
use mathlib.Core.Path.{◌≡◌, refl, ◌∙◌, ap}
use mathlib.Core.Bool.{Bool, true, false, cond}
use mathlib.Core.List.{List, [], ◌∷◌}
use lib.ListN.{length, get_or, take, set}
use native.Mathlib.Omega.{arith}
use Rattle.lists.specs.Lists.{total}
use Rattle.counters.specs.Blocks.{zeros}
use Rattle.queues.specs.Cells.{Hop, Entry, moved, arrived, delivering, passed, step, steps, waiting, delivered, arrivals}

pub moved_most : (h : Hop) (t q : ℕ) → moved h t q ≤ q
unfolding moved
moved_most h t q = go (h.sends t)
  where
    go : (b : Bool) → cond b (min q h.width) 0 ≤ q
    go true = omega arith
    go false = omega arith

-- The last cell of a list.
unfoldable pub final : List ℕ → ℕ
final [] = 0
final (c ∷ []) = c
final (c ∷ d ∷ cs) = final (d ∷ cs)

pub final_rest : (q : ℕ) (cs : List ℕ) → 0 < length cs → final (q ∷ cs) ≡ final cs
unfolding final
final_rest q [] l = absurd (omega arith)
final_rest q (c ∷ cs) l = refl

module _ (n : ℕ) where
  length_delivering : (cs : List ℕ) → length (delivering n cs) ≡ length cs
  unfolding delivering
  length_delivering [] = refl
  length_delivering (c ∷ []) = refl
  length_delivering (c ∷ d ∷ cs) = ap suc (length_delivering (d ∷ cs))

  pub total_delivering : (cs : List ℕ) → 0 < length cs → total (delivering n cs) ≡ total cs + n
  unfolding delivering total
  total_delivering [] l = absurd (omega arith)
  total_delivering (c ∷ []) l = omega arith
  total_delivering (c ∷ d ∷ cs) l = omega (arith, total_delivering (d ∷ cs) (omega arith))

  pub final_delivering : (cs : List ℕ) → 0 < length cs → final (delivering n cs) ≡ final cs + n
  unfolding delivering final
  final_delivering [] l = absurd (omega arith)
  final_delivering (c ∷ []) l = refl
  final_delivering (c ∷ d ∷ []) l = refl
  final_delivering (c ∷ d ∷ e ∷ cs) l = final_delivering (d ∷ e ∷ cs) (omega arith)

length_passed : (hs : List Hop) (t coming : ℕ) (cs : List ℕ) → length (passed hs t coming cs) ≡ length cs
unfolding passed
length_passed [] t coming cs = length_delivering coming cs
length_passed (h ∷ hs) t coming [] = refl
length_passed (h ∷ hs) t coming (q ∷ cs) = ap suc (length_passed hs t (moved h t q) cs)

-- On the way no packet is lost and none is made.
pub total_passed : (hs : List Hop) (t coming : ℕ) (cs : List ℕ) → length hs < length cs → total (passed hs t coming cs) ≡ total cs + coming
unfolding passed total
total_passed [] t coming cs l = total_delivering coming cs (omega arith)
total_passed (h ∷ hs) t coming [] l = absurd (omega arith)
total_passed (h ∷ hs) t coming (q ∷ cs) l = omega (arith, total_passed hs t (moved h t q) cs (omega arith), moved_most h t q)

pub length_arrived : (x : ℕ) (cs : List ℕ) → length (arrived x cs) ≡ length cs
unfolding arrived
length_arrived x [] = refl
length_arrived x (q ∷ cs) = refl

pub total_arrived : (x : ℕ) (cs : List ℕ) → 0 < length cs → total (arrived x cs) ≡ x + total cs
unfolding arrived total
total_arrived x [] l = absurd (omega arith)
total_arrived x (q ∷ cs) l = omega arith

pub length_step : (hs : List Hop) (t x : ℕ) (cs : List ℕ) → length (step hs t x cs) ≡ length cs
unfolding step
length_step hs t x cs = length_passed hs t 0 (arrived x cs) ∙ length_arrived x cs

pub length_steps : (hs : List Hop) (cs : List ℕ) (s : List Entry) → length (steps hs cs s) ≡ length cs
unfolding steps
length_steps hs cs [] = refl
length_steps hs cs (e ∷ s) = length_step hs e.number e.arrival (steps hs cs s) ∙ length_steps hs cs s

-- The cells hold what they held at first and all that has arrived.
pub total_steps : (hs : List Hop) (cs : List ℕ) (s : List Entry) → length hs < length cs → total (steps hs cs s) ≡ total (arrivals s) + total cs
unfolding steps step arrivals total
total_steps hs cs [] l = omega arith
total_steps hs cs (e ∷ s) l =
    let long : length (steps hs cs s) ≡ length cs = length_steps hs cs s in
    let more : length (arrived e.arrival (steps hs cs s)) ≡ length (steps hs cs s) = length_arrived e.arrival (steps hs cs s) in
    omega (
      arith,
      total_passed hs e.number 0 (arrived e.arrival (steps hs cs s)) (omega arith),
      total_arrived e.arrival (steps hs cs s) (omega arith),
      total_steps hs cs s l,
    )

-- Zeros.
pub total_zeros : (n : ℕ) → total (zeros n) ≡ 0
unfolding total zeros
total_zeros zero = refl
total_zeros (suc n) = omega (arith, total_zeros n)

pub final_zeros : (n : ℕ) → final (zeros n) ≡ 0
unfolding final zeros
final_zeros zero = refl
final_zeros (suc zero) = refl
final_zeros (suc (suc n)) = final_zeros (suc n)

-- A list of one cell more than n: the first n and the last.
final_at : (n : ℕ) (cs : List ℕ) → length cs ≡ suc n → get_or cs n 0 ≡ final cs
unfolding final
final_at n [] e = absurd (omega arith)
final_at zero (c ∷ []) e = refl
final_at zero (c ∷ d ∷ cs) e = absurd (omega arith)
final_at (suc n) (c ∷ []) e = absurd (omega arith)
final_at (suc n) (c ∷ d ∷ cs) e = final_at n (d ∷ cs) (omega arith)

total_at : (n : ℕ) (cs : List ℕ) → length cs ≡ suc n → total cs ≡ total (take n cs) + get_or cs n 0
unfolding total
total_at n [] e = absurd (omega arith)
total_at zero (c ∷ []) e = omega arith
total_at zero (c ∷ d ∷ cs) e = absurd (omega arith)
total_at (suc n) (c ∷ cs) e = omega (arith, total_at n cs (omega arith))

pub delivered_final : (cs : List ℕ) → length cs ≡ 9 → delivered cs ≡ final cs
unfolding delivered
delivered_final cs e = final_at 8 cs e

-- Nine cells are the packets that wait and those delivered.
pub total_parts : (cs : List ℕ) → length cs ≡ 9 → total cs ≡ waiting cs + delivered cs
unfolding waiting delivered
total_parts cs e = total_at 8 cs e

pub waiting_arrived : (x : ℕ) (cs : List ℕ) → length cs ≡ 9 → waiting (arrived x cs) ≡ x + waiting cs
unfolding waiting arrived total
waiting_arrived x [] e = absurd (omega arith)
waiting_arrived x (q ∷ cs) e = omega arith

-- One entry of a list and its sum.
pub get_or_total : (cs : List ℕ) (k : ℕ) → get_or cs k 0 ≤ total cs
unfolding total
get_or_total [] k = omega arith
get_or_total (c ∷ cs) zero = omega arith
get_or_total (c ∷ cs) (suc k) = omega (arith, get_or_total cs k)

pub total_set : (cs : List ℕ) (k v : ℕ) → k < length cs → total (set cs k v) + get_or cs k 0 ≡ total cs + v
unfolding total
total_set [] k v l = absurd (omega arith)
total_set (c ∷ cs) zero v l = omega arith
total_set (c ∷ cs) (suc k) v l = omega (arith, total_set cs k v (omega arith))
