-- What a reading read, told by its verdict and by what it gives.
use mathlib.Core.Path.{◌≡◌, ap}
use Rattle.rulings.specs.Outcome.{Outcome, Ruling, accepted, refused, given, or_else}

-- An accepted reading read what it gives.
pub read_given : {A : Type 0} (other : A) (o : Outcome A) (r : Ruling) (a : A) → (r, a) ≡ or_else other o → given r a ≡ o
unfolding or_else
read_given {A = A} other (accepted b) r a e = ap (λ (x : Ruling × A). given x.0 x.1) e
read_given {A = A} other (refused number place) r a e = ap (λ (x : Ruling × A). given x.0 x.1) e
