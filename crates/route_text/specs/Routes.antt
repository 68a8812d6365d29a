-- A flow's route as text.
use Rattle.std.specs.Prelude.{ℕ, List, [], ◌∷◌}
use Rattle.text.specs.Letters.{letters}
use Rattle.text.specs.Decimal.{decimal}

-- A link and, as it is written in SVG, the sign that leads on to the next.
unfoldable pub hop : ℕ → List (List ℕ)
hop m = decimal m ∷ letters " &gt; " ∷ []
