-- Lists of calls on a live site, each of which gets the site and the counters that the one before left.
use Rattle.std.specs.Prelude.{ℕ, zero, suc, ◌≡◌, cond, List, [], ◌∷◌}
use Rattle.rulings.specs.Outcome.{Ruling, accepted, Checks}
use Rattle.site.specs.declared.Site.{Site}
use Rattle.site.specs.declared.Flow.{Flow}
use Rattle.site.specs.Sites.{live}
use Rattle.site_check.specs.Check.{flow_of}
use Rattle.admission.specs.Calls.{admit_of, release_of}
use Rattle.admission.specs.Words.{admission_checks, release_checks}
use Rattle.moves.specs.Hops.{Service}
use Rattle.simulation.specs.Slot.{slot_of, start_of}
use Rattle.simulation.specs.Words.{slot_checks, start_checks}

-- The calls of a list: a slot with a number and a list of arrivals, an admission, a release, a start of the rehearsal.
pub data Call : Type 0 where
  slot : (number : ℕ) (xs : List ℕ) → Call
  admit : Flow → Call
  release : (number : ℕ) → Call
  start : Call

-- What one call leaves to the next.
pub record State : Type 0 where
  pub site : Site
  pub counters : List ℕ

-- What the function of each call promises: the answer a and the state σ' that it leaves, called in the state σ. A slot and a start are lent the counters alone, so the
-- site stays. The functions themselves serve the links by the site's own schedule, the service `own`.
unfoldable pub Promise : Service → Call → State → Ruling → State → Type 0
Promise v (slot t xs) σ a σ' = ((a, σ'.counters) ≡ slot_of v σ.site σ.counters xs t) × (σ'.site ≡ σ.site)
Promise v (admit f) σ a σ' = (a, σ'.site, σ'.counters) ≡ admit_of σ.site σ.counters f
Promise v (release n) σ a σ' = (a, σ'.site, σ'.counters) ≡ release_of σ.site σ.counters n
Promise v start σ a σ' = ((a, σ'.counters) ≡ start_of σ.site σ.counters) × (σ'.site ≡ σ.site)

-- What a call answers and leaves, by these definitions.
unfoldable pub called : Service → Call → State → Ruling × State
called v (slot t xs) σ = let w = slot_of v σ.site σ.counters xs t in (w.0, record { site = σ.site; counters = w.1 })
called v (admit f) σ = let w = admit_of σ.site σ.counters f in (w.0, record { site = w.1; counters = w.2 })
called v (release n) σ = let w = release_of σ.site σ.counters n in (w.0, record { site = w.1; counters = w.2 })
called v start σ = let w = start_of σ.site σ.counters in (w.0, record { site = σ.site; counters = w.1 })

-- The checks of each call in their order, in words.
unfoldable pub checks_of : Call → State → Checks
checks_of (slot t xs) σ = slot_checks σ.site σ.counters xs
checks_of (admit f) σ = admission_checks σ.site σ.counters f
checks_of (release n) σ = release_checks σ.site σ.counters n
checks_of start σ = start_checks σ.site σ.counters

-- The calls made and their answers, newest first.
abbrev pub Log : Type 0
Log = List (Call × Ruling)

-- A list of calls with the state that it begins with and the one that it leaves.
pub data Run (v : Service) (σ₀ : State) : Log → State → Type 0 where
  none : Run v σ₀ [] σ₀
  then : {l : Log} {σ : State} (c : Call) (a : Ruling) (σ' : State) → Run v σ₀ l σ → Promise v c σ a σ' → Run v σ₀ ((c, a) ∷ l) σ'

-- The admissions of the live flows of s with numbers below n, by rising number, every one accepted.
unfoldable pub admissions : Site → ℕ → Log
admissions s zero = []
admissions s (suc n) = cond (live s n) ((admit (flow_of s n), accepted tt) ∷ admissions s n) (admissions s n)
