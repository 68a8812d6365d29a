-- What a slot answers and leaves by the verdict.
use Prim.Native.Nat.{ℕ}
use mathlib.Core.Path.{◌≡◌}
use mathlib.Core.List.{List}
use Rattle.rulings.specs.Outcome.{Ruling, accepted, refused, settled}
use Rattle.moves.specs.Moves.{recounted}

module _ (r : Ruling) (new cs : List ℕ) where
  pub recount_accepted : (ds : List ℕ) → accepted tt ≡ r → ds ≡ new → (accepted tt, ds) ≡ recounted r new cs
  unfolding settled recounted
  recount_accepted ds e q = rw (q, ← e)

  pub recount_refused : (number place : ℕ) → refused number place ≡ r → (refused number place, cs) ≡ recounted r new cs
  unfolding settled recounted
  recount_refused number place e = rw (← e)
