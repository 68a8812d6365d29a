-- Plans that 02, U2, let in.
use Rattle.std.specs.Prelude.{ℕ, List, [], ◌∷◌}

-- Two lanes under the server, of capacity 20 and wanted gaps 4 and 6, which both get period 4, and flow 5 from the second with this rate and deadline 5.
abbrev pub lanes : ℕ → List ℕ
lanes rate = 1 ∷ 0 ∷ 20 ∷ 0 ∷ 4 ∷ 0 ∷ 1 ∷ 0 ∷ 20 ∷ 0 ∷ 6 ∷ 0 ∷ 2 ∷ 5 ∷ 2 ∷ rate ∷ 5 ∷ 0 ∷ 255 ∷ []
