-- What is proved of the calls that change no plan: an accepted start or slot is the operation on the site that the bytes read to. The module named here
-- holds the lemmas.
pub mod Ends
use Prim.Native.Nat.{ℕ}
use mathlib.Core.Path.{◌≡◌, ap}
use mathlib.Core.List.{List}
use Rattle.rulings.specs.Outcome.{Outcome, Ruling, accepted, refused}
use Rattle.site.specs.declared.Site.{Site}
use Rattle.plan_reader.specs.Read.{read_of}
use Rattle.moves.specs.Hops.{own}
use Rattle.simulation.specs.Slot.{slot_of, start_of}
use Rattle.host_answers.specs.Answers.{valued}
use Rattle.host_answers.specs.Calls.{on_site}
use Rattle.host_answers.proofs.Laws.Calls.{unlike, by_site, of_list}
use Rattle.host_calls.specs.Calls.{answered, start_from, slot_from}

-- An accepted start or slot was accepted on the site that the bytes read to, and left the counters that it leaves.
abbrev Played : List ℕ → (Site → Ruling × List ℕ) → List ℕ → Type 0
Played bytes call ds = (s : Site) × (read_of bytes ≡ accepted s) × (call s ≡ (accepted tt, ds))

answered_yes : (r : Ruling × List ℕ) (value : ℕ) (ds : List ℕ) → answered r ≡ (accepted value, ds) → r ≡ (accepted tt, ds)
unfolding answered valued
answered_yes (accepted a, cs) value ds e = let q : cs ≡ ds = ap (λ (r : Outcome ℕ × List ℕ). r.1) e in rw q
answered_yes (refused number place, cs) value ds e = absurd (unlike (ap (λ (r : Outcome ℕ × List ℕ). r.0) e))

played : (bytes counters : List ℕ) (call : Site → Ruling × List ℕ) (value : ℕ) (ds : List ℕ)
    → on_site bytes (refused 14 0, counters) (λ s. answered (call s)) ≡ (accepted value, ds) → Played bytes call ds
played bytes counters call value ds e =
    let w = by_site bytes _ _ (λ (s : Site). answered (call s)) (λ q. unlike (ap (λ (r : Outcome ℕ × List ℕ). r.0) q)) e in
    (w.0, w.1, answered_yes (call w.0) value ds w.2)

pub start_plays : (bytes counters : List ℕ) (value : ℕ) (ds : List ℕ) → start_from bytes counters ≡ (accepted value, ds) → Played bytes (λ s. start_of s counters) ds
unfolding start_from
start_plays bytes counters value ds e =
    let a = of_list counters 576 _ _ _ (λ q. unlike (ap (λ (r : Outcome ℕ × List ℕ). r.0) q)) e in
    played bytes counters (λ s. start_of s counters) value ds a.1

pub slot_plays : (bytes counters arrivals : List ℕ) (t value : ℕ) (ds : List ℕ) → slot_from bytes counters arrivals t ≡ (accepted value, ds)
    → Played bytes (λ s. slot_of own s counters arrivals t) ds
unfolding slot_from
slot_plays bytes counters arrivals t value ds e =
    let a = of_list counters 576 _ _ _ (λ q. unlike (ap (λ (r : Outcome ℕ × List ℕ). r.0) q)) e in
    let b = of_list arrivals 64 _ _ _ (λ q. unlike (ap (λ (r : Outcome ℕ × List ℕ). r.0) q)) a.1 in
    played bytes counters (λ s. slot_of own s counters arrivals t) value ds b.1
