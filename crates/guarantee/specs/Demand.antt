-- 01, the list of demand 3: where a list begins, what is taken for granted of its calls, and what then holds after it.
use Rattle.std.specs.Prelude.{ℕ, ◌+◌, ◌-◌, ◌*◌, ◌≤◌, ◌≡◌, true, List, [], ◌∷◌, length, get_or}
use Rattle.rulings.specs.Outcome.{Ruling, accepted, refused, Ruled, nothing}
use Rattle.lists.specs.Lists.{total}
use Rattle.site.specs.declared.Site.{Site}
use Rattle.site.specs.Sites.{live}
use Rattle.site_check.specs.Check.{passes_of}
use Rattle.counters.specs.Blocks.{cells_of, zeros}
use Rattle.queues.specs.Cells.{Entry, arrived, steps, waiting, delivered, arrivals, all_but_newest, span}
use Rattle.queues.specs.Pace.{All, Rising, Within}
use Rattle.moves.specs.Hops.{Service, hops_of}
use Rattle.guarantee.specs.Runs.{Call, slot, admit, release, start, State, Log, Run, none, then, checks_of}

-- 01: the accepted slots of a list as flow f sees them, newest first. A refused slot counts as none.
unfoldable pub entered : ℕ → Call → Ruling → List Entry → List Entry
entered f (slot t xs) (accepted a) slots = record { number = t; arrival = get_or xs f 0 } ∷ slots
entered f (slot t xs) (refused n p) slots = slots
entered f (admit g) r slots = slots
entered f (release m) r slots = slots
entered f start r slots = slots

unfoldable pub slots_of : ℕ → Log → List Entry
slots_of f [] = []
slots_of f ((c, r) ∷ l) = entered f c r (slots_of f l)

-- 01: flow f stays admitted. An accepted release is that of another flow.
unfoldable pub Stays : ℕ → Call × Ruling → Type 0
Stays f (slot t xs, r) = Unit
Stays f (admit g, r) = Unit
Stays f (release m, accepted a) = m ≡ f → ⊥
Stays f (release m, refused n p) = Unit
Stays f (start, r) = Unit

-- 01: no rehearsal starts anew. A start is refused.
unfoldable pub NoStart : Call × Ruling → Type 0
NoStart (slot t xs, r) = Unit
NoStart (admit g, r) = Unit
NoStart (release m, r) = Unit
NoStart (start, accepted a) = ⊥
NoStart (start, refused n p) = Unit

-- A flow's rate, its deadline, and G: by the site's own schedule the periods along its route, summed.
abbrev pub rate_of : Site → ℕ → ℕ
rate_of s f = get_or s.rates f 0

abbrev pub deadline_of : Site → ℕ → ℕ
deadline_of s f = get_or s.deadlines f 0

abbrev pub bound_of : Service → Site → ℕ → ℕ
bound_of v s f = span (hops_of v s f)

-- 01, how a list begins: the site is any one that passes check 14, there are 576 counters, and flow f is live with nine cells of 0.
pub record Begins (f : ℕ) (σ : State) : Type 0 where
  pub passes : passes_of σ.site ≡ true
  pub counted : length σ.counters ≡ 576
  pub living : live σ.site f ≡ true
  pub empty : cells_of f σ.counters ≡ zeros 9

-- 01's premises on the calls of a list that begins on site s: the flow stays admitted, no rehearsal starts anew, the numbers of the accepted slots rise by one, and
-- each of them brings the flow at most its rate.
pub record Allowed (f : ℕ) (s : Site) (l : Log) : Type 0 where
  pub stays : All (Stays f) l
  pub unbroken : All NoStart l
  pub rising : Rising (slots_of f l)
  pub rated : Within (rate_of s f) (slots_of f l)

-- 01: each call has the outcome that its first failing check gives it, and says so in its answer.
unfoldable pub Answered : {v : Service} {σ₀ : State} {l : Log} {σ : State} → Run v σ₀ l σ → Type 0
Answered none = Unit
Answered (then {σ = σ} c r σ' run p) = Ruled nothing (checks_of c σ) r × Answered run

-- 01: at most n packets of flow f wait after every call, and at the beginning.
unfoldable pub Waits : {v : Service} {σ₀ : State} {l : Log} {σ : State} → ℕ → ℕ → Run v σ₀ l σ → Type 0
Waits {σ₀ = σ₀} f n none = waiting (cells_of f σ₀.counters) ≤ n
Waits f n (then c r σ' run p) = (waiting (cells_of f σ'.counters) ≤ n) × Waits f n run

-- 01: and so in each accepted slot when its arrivals have just joined. First for one call, made in the state σ; then for all of a list.
unfoldable pub JoinsIn : ℕ → ℕ → Call → Ruling → State → Type 0
JoinsIn f n (slot t xs) (accepted a) σ = waiting (arrived (get_or xs f 0) (cells_of f σ.counters)) ≤ n
JoinsIn f n (slot t xs) (refused m p) σ = Unit
JoinsIn f n (admit g) r σ = Unit
JoinsIn f n (release m) r σ = Unit
JoinsIn f n start r σ = Unit

unfoldable pub Joins : {v : Service} {σ₀ : State} {l : Log} {σ : State} → ℕ → ℕ → Run v σ₀ l σ → Type 0
Joins f n none = Unit
Joins f n (then {σ = σ} c r σ' run p) = JoinsIn f n c r σ × Joins f n run

-- 01, after every list:
pub record Kept (v : Service) (f : ℕ) (σ₀ : State) (l : Log) (σ : State) (run : Run v σ₀ l σ) : Type 0 where
  -- each call has the outcome of its checks, and its answer says so;
  pub answers : Answered run
  -- the flow's nine cells are what the rules of 'One slot' give from nine zeros, its hops and the accepted slots alone;
  pub cells : cells_of f σ.counters ≡ steps (hops_of v σ₀.site f) (zeros 9) (slots_of f l)
  -- its arrivals are in its queues or delivered;
  pub all : total (arrivals (slots_of f l)) ≡ waiting (cells_of f σ.counters) + delivered (cells_of f σ.counters)
  -- its arrivals in all accepted slots but the last G - 1 are delivered;
  pub delay : total (all_but_newest (bound_of v σ₀.site f - 1) (arrivals (slots_of f l))) ≤ delivered (cells_of f σ.counters)
  -- G is at most its deadline;
  pub deadline : bound_of v σ₀.site f ≤ deadline_of σ₀.site f
  -- at most rate × G of its packets wait after every call,
  pub waits : Waits f (rate_of σ₀.site f * bound_of v σ₀.site f) run
  -- and in each accepted slot when its arrivals have just joined.
  pub joins : Joins f (rate_of σ₀.site f * bound_of v σ₀.site f) run

-- The number of the newest of these slots, 0 where there is none.
unfoldable pub newest : List Entry → ℕ
newest [] = 0
newest (e ∷ slots) = e.number
