-- 01, One slot: each flow's packets leave first come, first served. The same slot with the packets of one flow by their numbers in place of counts: eight queues,
-- each with the packet in front that leaves first, and then the packets delivered, in the order in which they left.
use Rattle.std.specs.Prelude.{ℕ, ◌+◌, List, [], ◌∷◌, ◌++◌, map, length, get_or, take, drop, replicate}
use Rattle.lists.specs.Lists.{total, listed}
use Rattle.queues.specs.Cells.{Hop, Entry, moved, arrivals}

-- 01, the list of demand 3: packets are numbered from 1 as they arrive. These are the n packets that come when `before` have come.
abbrev pub numbered : ℕ → ℕ → List ℕ
numbered before n = listed (λ k. k) n (before + 1)

-- 01: arrivals join the first queue, at its end.
unfoldable pub joining : List ℕ → List (List ℕ) → List (List ℕ)
joining packets [] = []
joining packets (queue ∷ queues) = (queue ++ packets) ∷ queues

-- 01: packets join those delivered, which stand last, at their end.
unfoldable pub handing : List ℕ → List (List ℕ) → List (List ℕ)
handing packets [] = []
handing packets (left ∷ []) = (left ++ packets) ∷ []
handing packets (queue ∷ next ∷ queues) = queue ∷ handing packets (next ∷ queues)

-- 01: what the sending links move in slot t. A link takes as many packets as `moved` says from the front of its queue, and they join the end of the next.
unfoldable pub passing : List Hop → ℕ → List ℕ → List (List ℕ) → List (List ℕ)
passing [] t coming queues = handing coming queues
passing (h ∷ hs) t coming [] = []
passing (h ∷ hs) t coming (queue ∷ queues) =
    (drop (moved h t (length queue)) queue ++ coming) ∷ passing hs t (take (moved h t (length queue)) queue) queues

-- The queues and the packets delivered after these slots, newest first, from none at all.
unfoldable pub packets_after : List Hop → List Entry → List (List ℕ)
packets_after hs [] = replicate 9 []
packets_after hs (e ∷ slots) = passing hs e.number [] (joining (numbered (total (arrivals slots)) e.arrival) (packets_after hs slots))

-- How many packets stand in each queue, and how many were delivered.
abbrev pub lengths : List (List ℕ) → List ℕ
lengths queues = map (λ (queue : List ℕ). length queue) queues

-- The packets delivered, in the order in which they left.
abbrev pub packets_left : List (List ℕ) → List ℕ
packets_left queues = get_or queues 8 []

-- All packets in the order in which they leave: those delivered, then those of the last queue, and so on down to the first.
unfoldable pub in_order : List (List ℕ) → List ℕ
in_order [] = []
in_order (queue ∷ queues) = in_order queues ++ queue
