-- What a panel has beside its rows, as pieces of text: its title, its ground and the edges of its slots.
use Rattle.std.specs.Prelude.{ℕ, ◌+◌, ◌-◌, ◌*◌, ◌/◌, cond, List, [], ◌∷◌, ◌++◌, eqb, leb}
use Rattle.site.specs.declared.Site.{Site}
use Rattle.schedule.specs.Schedule.{base_under}
use Rattle.text.specs.Letters.{letters}
use Rattle.text.specs.Decimal.{decimal}
use Rattle.frames.specs.Marks.{frame_of, idle_count}
use Rattle.chart_rows.specs.Scale.{slot_width, spacing, slots_span}

unfoldable pub parent_name : ℕ → List (List ℕ)
parent_name parent = cond (eqb parent 0) (letters "under server (node 0)" ∷ []) (letters "under node " ∷ decimal parent ∷ [])

-- A number of things, with its plural.
unfoldable pub counted : ℕ → List ℕ → List (List ℕ)
counted count thing = decimal count ∷ thing ∷ cond (eqb count 1) [] (letters "s" ∷ [])

-- A frame of which not every slot is shown is told whole.
unfoldable pub first_only : ℕ → List (List ℕ)
first_only frame = cond (leb frame 128) [] (letters ", first 128 of " ∷ decimal frame ∷ letters " slots shown" ∷ [])

-- The panel begins at a height.
unfoldable pub opened : ℕ → ℕ → List (List ℕ)
opened parent y =
    letters "<g id=\"node" ∷ decimal parent ∷ letters "\" transform=\"translate(0 " ∷ decimal y ∷
    letters ")\">\n<text x=\"24\" y=\"18\" font-size=\"14\"><tspan class=\"bold\">" ∷ []

unfoldable pub figures : ℕ → ℕ → ℕ → List (List ℕ)
figures base frame idle =
    letters "</tspan> <tspan class=\"grey\" dx=\"8\">base " ∷ decimal base ∷ letters ", frame of " ∷ []
    ++ (counted frame (letters " slot")
    ++ (letters ", " ∷ decimal idle ∷ letters " idle" ∷ [] ++ (first_only frame ++ (letters "</tspan></text>\n" ∷ []))))

-- Whose slots the panel shows, their base and their frame, and how many slots of it are idle.
unfoldable pub title : Site → ℕ → ℕ → List (List ℕ)
title s parent y =
    opened parent y
    ++ (parent_name parent ++ figures (base_under s parent) (frame_of s parent) (idle_count s parent (frame_of s parent)))

-- Every other row of 20 pixels on a grey ground, from a height down: a wide stroke in dashes draws them all.
unfoldable pub stripes : ℕ → ℕ → ℕ → List (List ℕ)
stripes width top rows =
    letters "<path class=\"stripes\" stroke-dasharray=\"20\" stroke-width=\"" ∷ decimal width ∷ letters "\" d=\"M" ∷ decimal (24 + width / 2) ∷
    letters " " ∷ decimal top ∷ letters "v" ∷ decimal (20 * rows) ∷ letters "\"/>\n" ∷ []

unfoldable pub columns : List (List ℕ)
columns =
    letters "<g class=\"grey\" font-size=\"10\"><text x=\"76\" y=\"40\">sends in slots</text><text x=\"216\" y=\"40\">load of capacity</text>"
    ∷ letters "<text class=\"end\" x=\"416\" y=\"40\">slot</text></g>\n" ∷ []

-- The ground of a panel with so many children, one row more for the idle slots, and what its columns say.
unfoldable pub ground : ℕ → ℕ → List (List ℕ)
ground slots children = stripes (400 + slots_span slots) 46 (children + 1) ++ columns

-- Lines one pixel wide and so far apart, as dashes of a stroke as wide as the rows are high.
unfoldable pub edges : List ℕ → ℕ → ℕ → ℕ → ℕ → List (List ℕ)
edges class apart middle height wide =
    letters "<path class=\"" ∷ class ∷ letters "\" stroke-dasharray=\"1 " ∷ decimal (apart - 1) ∷ letters "\" stroke-width=\"" ∷ decimal height ∷
    letters "\" d=\"M424 " ∷ decimal middle ∷ letters "h" ∷ decimal (wide + 1) ∷ letters "\"/>\n" ∷ []

-- The edges of the slots, and those of the numbered ones, which reach up to their numbers.
unfoldable pub grid : ℕ → ℕ → List (List ℕ)
grid slots children =
    edges (letters "edges") (slot_width slots) (56 + 10 * children) (20 + 20 * children) (slots_span slots)
    ++ edges (letters "ticks") (spacing slots) (54 + 10 * children) (24 + 20 * children) (slots_span slots)
