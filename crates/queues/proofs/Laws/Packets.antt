-- A flow's packets leave first come, first served: the cells are the lengths of the queues of numbered packets, and no packet overtakes another.
use Prim.Native.Nat.{ℕ, zero, suc, ◌+◌, ◌-◌, ◌≤◌, ◌<◌}
use mathlib.Core.Path.{◌≡◌, refl, sym, ◌∙◌, ap}
use mathlib.Core.Logic.{◌⊎◌, inl, inr, ◌↔◌}
use mathlib.Core.List.{List, [], ◌∷◌, ◌++◌, append_assoc, append-nil}
use lib.ListN.{length, take, drop, get_or, replicate, length-append, length-drop, length-map, take-append-drop, get_or-map, get_or-eq_default}
use lib.Seq.{length-take-le, take_at}
use native.Mathlib.Nat.{zero-add}
use native.Mathlib.Omega.{arith}
use Rattle.lists.specs.Lists.{total, listed}
use Rattle.lists.proofs.Laws.Listed.{length_listed, get_or_listed}
use Rattle.lists.proofs.Laws.Search.{lt_or_le}
use Rattle.counters.specs.Blocks.{zeros}
use Rattle.counters.proofs.Laws.{length_zeros}
use Rattle.queues.specs.Cells.{Hop, Entry, moved, arrived, delivering, passed, step, steps, delivered, arrivals}
use Rattle.queues.specs.Packets.{numbered, joining, handing, passing, packets_after, lengths, packets_left, in_order}
use Rattle.queues.specs.Words.{HasLeft}
use Rattle.queues.proofs.Laws.Cells.{moved_most, length_steps}

-- The queues past the route are empty.
unfoldable Clear : List Hop → List (List ℕ) → Type 0
Clear [] [] = Unit
Clear [] (q ∷ []) = Unit
Clear [] (q ∷ r ∷ qs) = (q ≡ []) × Clear [] (r ∷ qs)
Clear (h ∷ hs) [] = Unit
Clear (h ∷ hs) (q ∷ qs) = Clear hs qs

-- What comes to a row of queues stands behind all packets in them: no packet overtakes another.
order_handing : (ns : List ℕ) (qs : List (List ℕ)) → 0 < length qs → Clear [] qs → in_order (handing ns qs) ≡ in_order qs ++ ns
unfolding in_order handing Clear
order_handing ns [] l w = absurd (omega arith)
order_handing ns (q ∷ []) l w = refl
order_handing ns (q ∷ r ∷ qs) l w =
    rw w.0 (append-nil _ ∙ order_handing ns (r ∷ qs) (omega arith) w.1 ∙ ap (λ (ks : List ℕ). ks ++ ns) (sym (append-nil (in_order (r ∷ qs)))))

order_passing : (hs : List Hop) (t : ℕ) (coming : List ℕ) (qs : List (List ℕ)) → length hs < length qs → Clear hs qs
    → in_order (passing hs t coming qs) ≡ in_order qs ++ coming
unfolding in_order passing Clear
order_passing [] t coming qs l w = order_handing coming qs l w
order_passing (h ∷ hs) t coming [] l w = absurd (omega arith)
order_passing (h ∷ hs) t coming (q ∷ qs) l w =
    let m = moved h t (length q) in
    ap (λ (ks : List ℕ). ks ++ (drop m q ++ coming)) (order_passing hs t (take m q) qs (omega arith) w)
    ∙ append_assoc (in_order qs) (take m q) (drop m q ++ coming)
    ∙ ap (λ (ks : List ℕ). in_order qs ++ ks) (sym (append_assoc (take m q) (drop m q) coming) ∙ ap (λ (ks : List ℕ). ks ++ coming) (take-append-drop m q))
    ∙ sym (append_assoc (in_order qs) q coming)

order_joining : (ns : List ℕ) (qs : List (List ℕ)) → 0 < length qs → in_order (joining ns qs) ≡ in_order qs ++ ns
unfolding in_order joining
order_joining ns [] l = absurd (omega arith)
order_joining ns (q ∷ qs) l = sym (append_assoc (in_order qs) q ns)

-- No packet comes to a queue past the route.
clear_empty : (hs : List Hop) (n : ℕ) → Clear hs (replicate n [])
unfolding Clear
clear_empty [] zero = tt
clear_empty [] (suc zero) = tt
clear_empty [] (suc (suc n)) = (refl, clear_empty [] (suc n))
clear_empty (h ∷ hs) zero = tt
clear_empty (h ∷ hs) (suc n) = clear_empty hs n

clear_handing : (ns : List ℕ) (qs : List (List ℕ)) → Clear [] qs → Clear [] (handing ns qs)
unfolding Clear handing
clear_handing ns [] w = w
clear_handing ns (q ∷ []) w = tt
clear_handing ns (q ∷ r ∷ []) w = (w.0, tt)
clear_handing ns (q ∷ r ∷ p ∷ qs) w = (w.0, clear_handing ns (r ∷ p ∷ qs) w.1)

clear_passing : (hs : List Hop) (t : ℕ) (coming : List ℕ) (qs : List (List ℕ)) → Clear hs qs → Clear hs (passing hs t coming qs)
unfolding Clear passing
clear_passing [] t coming qs w = clear_handing coming qs w
clear_passing (h ∷ hs) t coming [] w = tt
clear_passing (h ∷ hs) t coming (q ∷ qs) w = clear_passing hs t _ qs w

clear_joining : (h : Hop) (hs : List Hop) (ns : List ℕ) (qs : List (List ℕ)) → Clear (h ∷ hs) qs → Clear (h ∷ hs) (joining ns qs)
unfolding Clear joining
clear_joining h hs ns [] w = tt
clear_joining h hs ns (q ∷ qs) w = w

clear_after : (h : Hop) (hs : List Hop) (s : List Entry) → Clear (h ∷ hs) (packets_after (h ∷ hs) s)
unfolding packets_after
clear_after h hs [] = clear_empty (h ∷ hs) 9
clear_after h hs (e ∷ s) = clear_passing (h ∷ hs) e.number [] _ (clear_joining h hs _ _ (clear_after h hs s))

-- As many packets move as the counts say.
lengths_joining : (ns : List ℕ) (qs : List (List ℕ)) → lengths (joining ns qs) ≡ arrived (length ns) (lengths qs)
unfolding joining arrived
lengths_joining ns [] = refl
lengths_joining ns (q ∷ qs) = rw (length-append q ns)

lengths_handing : (ns : List ℕ) (qs : List (List ℕ)) → lengths (handing ns qs) ≡ delivering (length ns) (lengths qs)
unfolding handing delivering
lengths_handing ns [] = refl
lengths_handing ns (q ∷ []) = rw (length-append q ns)
lengths_handing ns (q ∷ r ∷ qs) = ap (λ (ks : List ℕ). length q ∷ ks) (lengths_handing ns (r ∷ qs))

lengths_passing : (hs : List Hop) (t : ℕ) (coming : List ℕ) (qs : List (List ℕ)) → lengths (passing hs t coming qs) ≡ passed hs t (length coming) (lengths qs)
unfolding passing passed
lengths_passing [] t coming qs = lengths_handing coming qs
lengths_passing (h ∷ hs) t coming [] = refl
lengths_passing (h ∷ hs) t coming (q ∷ qs) =
    let n : length (take (moved h t (length q)) q) ≡ moved h t (length q) = length-take-le _ q (moved_most h t (length q)) in
    rw (length-append (drop (moved h t (length q)) q) coming, length-drop (moved h t (length q)) q)
    (ap (λ (ks : List ℕ). (length q - moved h t (length q) + length coming) ∷ ks) (rw n at (lengths_passing hs t (take (moved h t (length q)) q) qs)))

-- The nine cells are the lengths of the queues, and the delivered count is the number of packets delivered.
pub cells_lengths : (hs : List Hop) (s : List Entry) → lengths (packets_after hs s) ≡ steps hs (zeros 9) s
unfolding packets_after steps step zeros
cells_lengths hs [] = refl
cells_lengths hs (e ∷ s) =
    lengths_passing hs e.number [] _
    ∙ ap (λ (ks : List ℕ). passed hs e.number 0 ks)
    (lengths_joining _ (packets_after hs s) ∙ rw (length_listed (λ k. k) e.arrival (total (arrivals s) + 1), cells_lengths hs s))

nine_queues : (hs : List Hop) (s : List Entry) → length (packets_after hs s) ≡ 9
nine_queues hs s = sym (length-map (packets_after hs s) (λ (q : List ℕ). length q)) ∙ rw (cells_lengths hs s) (length_steps hs (zeros 9) s ∙ length_zeros 9)

length_joining : (ns : List ℕ) (qs : List (List ℕ)) → length (joining ns qs) ≡ length qs
unfolding joining
length_joining ns [] = refl
length_joining ns (q ∷ qs) = refl

-- The first m packets and the n after them.
numbered_split : (m n before : ℕ) → numbered before (m + n) ≡ numbered before m ++ numbered (before + m) n
unfolding listed
numbered_split zero n before = let e : before + 0 ≡ before = omega arith in let d : 0 + n ≡ n = omega arith in rw (e, d)
numbered_split (suc m) n before =
    let e : suc m + n ≡ suc (m + n) = omega arith in
    let d : before + suc m ≡ before + 1 + m = omega arith in
    rw (e, d) (ap (λ (ks : List ℕ). (before + 1) ∷ ks) (numbered_split m n (before + 1)))

-- All packets that came stand in the order in which they came: those delivered, then those of the last queue, and so on down to the first.
pub in_order_lem : (hs : List Hop) (s : List Entry) → 1 ≤ length hs → length hs ≤ 8 → in_order (packets_after hs s) ≡ numbered 0 (total (arrivals s))
unfolding packets_after in_order arrivals total listed
in_order_lem [] s some few = absurd (omega arith)
in_order_lem (h ∷ hs) [] some few = refl
in_order_lem (h ∷ hs) (e ∷ s) some few =
    let came = total (arrivals s) in
    let sum : came + e.arrival ≡ e.arrival + came = omega arith in
    let long : length (joining (numbered came e.arrival) (packets_after (h ∷ hs) s)) ≡ 9 = length_joining _ _ ∙ nine_queues (h ∷ hs) s in
    order_passing (h ∷ hs) e.number [] _ (omega arith) (clear_joining h hs _ _ (clear_after h hs s)) ∙ append-nil _
    ∙ order_joining _ (packets_after (h ∷ hs) s) (omega (arith, nine_queues (h ∷ hs) s))
    ∙ ap (λ (ks : List ℕ). ks ++ numbered came e.arrival) (in_order_lem (h ∷ hs) s some few)
    ∙ sym (rw (zero-add came, sum) at (numbered_split came e.arrival 0))

-- The last of the lists stands first in the order of leaving.
left_before : (n : ℕ) (qs : List (List ℕ)) → length qs ≡ suc n → (rest : List ℕ) × (in_order qs ≡ get_or qs n [] ++ rest)
unfolding in_order
left_before n [] e = absurd (omega arith)
left_before zero (q ∷ []) e = ([], sym (append-nil q))
left_before zero (q ∷ r ∷ qs) e = absurd (omega arith)
left_before (suc n) (q ∷ qs) e =
    let w = left_before n qs (omega arith) in (w.0 ++ q, ap (λ (ks : List ℕ). ks ++ q) w.1 ∙ append_assoc (get_or qs n []) w.0 q)

-- The packets delivered are those with the numbers 1, 2, 3 and so on up to the delivered count, and they left in this order.
pub first_served : (hs : List Hop) (s : List Entry) → 1 ≤ length hs → length hs ≤ 8
    → packets_left (packets_after hs s) ≡ numbered 0 (delivered (steps hs (zeros 9) s))
unfolding delivered
first_served hs s some few = go (left_before 8 (packets_after hs s) (nine_queues hs s))
  where
    left : List ℕ
    left = packets_left (packets_after hs s)

    long : length left ≡ get_or (steps hs (zeros 9) s) 8 0
    long = sym (get_or-map (λ (q : List ℕ). length q) (packets_after hs s) 8 []) ∙ rw (cells_lengths hs s)

    go : (rest : List ℕ) × (in_order (packets_after hs s) ≡ left ++ rest) → left ≡ numbered 0 (get_or (steps hs (zeros 9) s) 8 0)
    go (rest, e) =
        let all : numbered 0 (total (arrivals s)) ≡ left ++ rest = sym (in_order_lem hs s some few) ∙ e in
        let count : length left + length rest ≡ total (arrivals s) = sym (length-append left rest) ∙ ap (λ (ks : List ℕ). length ks) (sym all) ∙ length_listed _ _ _ in
        sym (take_at left rest (length left) refl)
        ∙ ap (λ (ks : List ℕ). take (length left) ks) (sym all ∙ ap (λ (n : ℕ). numbered 0 n) (sym count) ∙ numbered_split (length left) (length rest) 0)
        ∙ take_at (numbered 0 (length left)) _ (length left) (length_listed _ _ _) ∙ ap (λ (n : ℕ). numbered 0 n) long

-- So packet n, numbered from 1, is the n-th of those delivered just when it has left in 01's words, by the delivered count.
pub left_when : (hs : List Hop) (s : List Entry) → 1 ≤ length hs → length hs ≤ 8 → (n : ℕ) → 1 ≤ n
    → HasLeft n (steps hs (zeros 9) s) ↔ (get_or (packets_left (packets_after hs s)) (n - 1) 0 ≡ n)
left_when hs s some few n one = rw (first_served hs s some few) (there, λ e. left e (lt_or_le (n - 1) count))
  where
    count : ℕ
    count = delivered (steps hs (zeros 9) s)

    there : n ≤ count → get_or (numbered 0 count) (n - 1) 0 ≡ n
    there l = get_or_listed (λ k. k) count 1 (n - 1) (omega arith) ∙ omega arith

    left : get_or (numbered 0 count) (n - 1) 0 ≡ n → (n - 1 < count) ⊎ (count ≤ n - 1) → n ≤ count
    left e (inl l) = omega arith
    left e (inr l) = absurd (omega (arith, sym e ∙ get_or-eq_default (numbered 0 count) 0 (rw length_listed l)))
