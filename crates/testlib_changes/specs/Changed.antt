-- What the test programs print of a site and its counters after a call: the entries that are others than before.
use Rattle.std.specs.Prelude.{ℕ, cond, List, [], ◌∷◌, ◌++◌, eqb, get_or}
use Rattle.lists.specs.Lists.{joined}
use Rattle.site.specs.declared.Site.{Site}
use Rattle.text.specs.Letters.{letters}
use Rattle.text.specs.Listed.{spaced_decimal}

-- The fields of a site by the numbers that a line gives them; the first is a single number.
abbrev pub fields_of : Site → List (List ℕ)
fields_of s =
    (s.links ∷ []) ∷ s.parents ∷ s.capacities ∷ s.gaps ∷ s.offsets ∷ s.periods ∷ s.states ∷ s.entries ∷ s.rates ∷ s.deadlines ∷ []

-- The entry of a field, 0 where there is none.
unfoldable pub entry_of : Site → ℕ → ℕ → ℕ
entry_of s field index = get_or (get_or (fields_of s) field []) index 0

-- Field, index and new value of an entry that is another.
unfoldable pub entry_text : Site → Site → ℕ → ℕ → List (List ℕ)
entry_text before after field index =
    cond (eqb (entry_of before field index) (entry_of after field index)) []
    (spaced_decimal field ++ (spaced_decimal index ++ spaced_decimal (entry_of after field index)))

unfoldable pub field_text : Site → Site → ℕ → List (List ℕ)
field_text before after field = joined (entry_text before after field) 64 0

unfoldable pub site_text : Site → Site → List (List ℕ)
site_text before after = letters " site" ∷ joined (field_text before after) 10 0

-- Index and new value of a counter that is another.
unfoldable pub counter_text : List ℕ → List ℕ → ℕ → List (List ℕ)
counter_text before after index =
    cond (eqb (get_or before index 0) (get_or after index 0)) [] (spaced_decimal index ++ spaced_decimal (get_or after index 0))

unfoldable pub counters_text : List ℕ → List ℕ → List (List ℕ)
counters_text before after = letters " counters" ∷ joined (counter_text before after) 577 0
