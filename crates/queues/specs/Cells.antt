-- 01, One slot, for one flow alone: its nine cells, which are eight queues from the entry link upward and then the delivered count.
use Rattle.std.specs.Prelude.{ℕ, ◌+◌, ◌-◌, min, Bool, cond, List, [], ◌∷◌, get_or, take, drop}
use Rattle.lists.specs.Lists.{total}

-- A link of a route as the flow's packets meet it: in which slots it sends, the flow's width on it, and its served gap, the largest number of slots from
-- one sending to the next, the second included.
pub record Hop : Type 0 where
  pub sends : ℕ → Bool
  pub width : ℕ
  pub gap : ℕ

-- 01: arrivals join the first queue.
unfoldable pub arrived : ℕ → List ℕ → List ℕ
arrived x [] = []
arrived x (queue ∷ cells) = (queue + x) ∷ cells

-- 01: of a queue longer than the width a link that sends moves the width, else all of it.
unfoldable pub moved : Hop → ℕ → ℕ → ℕ
moved h t queue = cond (h.sends t) (min queue h.width) 0

-- 01: packets join the delivered count, which is the last cell.
unfoldable pub delivering : ℕ → List ℕ → List ℕ
delivering n [] = []
delivering n (count ∷ []) = (count + n) ∷ []
delivering n (cell ∷ next ∷ cells) = cell ∷ delivering n (next ∷ cells)

-- 01: what the sending links move in slot t. The first hop has the first of the cells as its queue, and `coming` packets come to it from the hop before. They
-- join it at the slot's end, so what the hop moves is judged without them. Behind the last hop they are delivered; the cells past the route stay.
unfoldable pub passed : List Hop → ℕ → ℕ → List ℕ → List ℕ
passed [] t coming cells = delivering coming cells
passed (h ∷ hs) t coming [] = []
passed (h ∷ hs) t coming (queue ∷ cells) = (queue - moved h t queue + coming) ∷ passed hs t (moved h t queue) cells

-- 01, One slot: the cells after slot t, in which x packets arrive.
unfoldable pub step : List Hop → ℕ → ℕ → List ℕ → List ℕ
step hs t x cells = passed hs t 0 (arrived x cells)

-- An accepted slot as the flow sees it: its number, and how many packets arrive for the flow.
pub record Entry : Type 0 where
  pub number : ℕ
  pub arrival : ℕ

-- 01, the list of demand 3: the cells that the rules of 'One slot' give after these slots, newest first.
unfoldable pub steps : List Hop → List ℕ → List Entry → List ℕ
steps hs cells [] = cells
steps hs cells (e ∷ slots) = step hs e.number e.arrival (steps hs cells slots)

-- 01, the list of demand 3: the packets in the flow's queues wait.
unfoldable pub waiting : List ℕ → ℕ
waiting cells = total (take 8 cells)

-- The delivered count.
unfoldable pub delivered : List ℕ → ℕ
delivered cells = get_or cells 8 0

-- What arrives for the flow in these slots, newest first.
unfoldable pub arrivals : List Entry → List ℕ
arrivals [] = []
arrivals (e ∷ slots) = e.arrival ∷ arrivals slots

-- All but the newest n of a list that has the newest first, as `Log`, `slots_of` and `arrivals` have it.
abbrev pub all_but_newest : ℕ → List ℕ → List ℕ
all_but_newest n counts = drop n counts

-- The sum of the served gaps of a route. By a site's own schedule it is 01's G, the sum of the periods.
unfoldable pub span : List Hop → ℕ
span [] = 0
span (h ∷ hs) = h.gap + span hs
