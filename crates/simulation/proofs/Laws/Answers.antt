-- One law for each answer of a slot and a start.
use Prim.Native.Nat.{ℕ}
use mathlib.Core.Path.{◌≡◌, refl, sym}
use mathlib.Core.List.{List}
use lib.ListN.{length}
use borrow.Author.Tests.{eq-eqb, ne_eqb}
use Rattle.rulings.specs.Outcome.{accepted, refused, settled, number_of}
use Rattle.rulings.specs.declared.Fault.{Fault}
use Rattle.rulings.proofs.Laws.Faults.{number_some}
use Rattle.rulings.proofs.Laws.Outcomes.{checked_pass, checked_fail}
use Rattle.site.specs.declared.Site.{Site}
use Rattle.site_check.specs.Check.{call_fault}
use Rattle.site_check.proofs.Laws.{call_when}
use Rattle.counters.specs.Blocks.{zeros}
use Rattle.moves.specs.Hops.{Service}
use Rattle.simulation.specs.Slot.{slot_ruling, slot_of, start_ruling, start_of}
use Rattle.moves.specs.Moves.{recounted}

-- A slot's checks of its own.
module _ (v : Service) (s : Site) (cs xs : List ℕ) (t : ℕ) where
  pub slot_unlisted : (length xs ≡ 64 → ⊥) → (refused 1 0, cs) ≡ slot_of v s cs xs t
  unfolding slot_of slot_ruling recounted settled
  slot_unlisted d = rw (ne_eqb _ _ d)

  pub slot_call : (f : Fault) → number_of f ≡ call_fault s cs → length xs ≡ 64 → (refused (number_of f) 0, cs) ≡ slot_of v s cs xs t
  unfolding slot_of slot_ruling recounted settled
  slot_call f calls listed = rw (eq-eqb _ _ listed, ← calls, checked_fail (number_of f) _ (number_some f))

-- The answers of a start.
module _ (s : Site) (cs : List ℕ) where
  pub start_call : (f : Fault) → number_of f ≡ call_fault s cs → (refused (number_of f) 0, cs) ≡ start_of s cs
  unfolding start_of start_ruling recounted settled
  start_call f calls = rw (← calls, checked_fail (number_of f) _ (number_some f))

  pub start_passes : (call : ℕ) → call ≡ call_fault s cs → call ≡ 0 → (ds : List ℕ) → ds ≡ zeros (length cs) → length cs ≡ 576
      → (accepted tt, ds) ≡ start_of s cs
  unfolding start_of start_ruling recounted settled
  start_passes call calls passed ds e long = rw (← calls, checked_pass call _ passed, e, long)

  pub start_done : 0 ≡ call_fault s cs → (ds : List ℕ) → ds ≡ zeros (length cs) → (accepted tt, ds) ≡ start_of s cs
  start_done calls ds e = start_passes 0 calls refl ds e ((call_when s cs).0 (sym calls)).0

-- What `start` is proved by.
pub ruleset start_rules = (start_call, start_done)
