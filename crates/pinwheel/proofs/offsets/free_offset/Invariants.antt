-- Right because no candidate before this one is free, so that the search from here has the answer of the whole, and by `Try` no child before this one sends in
-- its slot; period - candidate falls.
use Prim.Native.Nat.{ℕ, ◌<◌, ◌-◌}
use mathlib.Core.Path.{◌≡◌}
use mathlib.Core.Bool.{Bool, not}
use mathlib.Core.List.{List}
use lib.ListN.{length, get_or}
use Rattle.lists.specs.Search.{first_in, any}
use Rattle.slot_rule.specs.Rule.{sends}
use Rattle.pinwheel.specs.Inner.{steps_of, places_of, some_sends}
use Rattle.pinwheel.proofs.offsets.free_offset.Given as goal

-- Child k of the two lists sends in slot t.
abbrev pub one : List ℕ → List ℕ → ℕ → ℕ → Bool
one steps places t k = sends (get_or steps k 0) (get_or places k 0) t

abbrev pub free : List ℕ → List ℕ → ℕ → ℕ → Bool
free steps places n t = not (some_sends steps places n t)

pub record Try (steps places : List ℕ) (n p from candidate₀ candidate k : ℕ) : Type 0 where
  pub same : candidate ≡ candidate₀
  pub below : candidate < p
  pub answer : first_in (free steps places n) p from ≡ first_in (free steps places n) p candidate
  pub none : some_sends steps places n candidate ≡ any (one steps places candidate) (n - k) k

abbrev pub invariant-earlier : goal.invariant-earlier
invariant-earlier l = Try (steps_of l.dealt) (places_of l.dealt) (length l.dealt) l.period l.from l.initial.candidate l.candidate l.child-index

abbrev pub invariant-search : goal.invariant-search
invariant-search l =
    first_in (free (steps_of l.dealt) (places_of l.dealt) (length l.dealt)) l.period l.from
    ≡ first_in (free (steps_of l.dealt) (places_of l.dealt) (length l.dealt)) l.period l.candidate

abbrev pub decreases-search : goal.decreases-search
decreases-search l = l.period - l.candidate
