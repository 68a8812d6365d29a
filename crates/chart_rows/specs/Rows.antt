-- The rows of a panel as pieces of text: SVG, in which a row is 20 pixels high.
use Rattle.std.specs.Prelude.{ℕ, min, max, ◌*◌, ◌/◌, ◌%◌, cond, List, [], ◌∷◌, ◌++◌, eqb, leb}
use Rattle.lists.specs.Lists.{joined}
use Rattle.site.specs.declared.Site.{Site}
use Rattle.tree.specs.Tree.{of_link}
use Rattle.schedule.specs.Schedule.{link_sends}
use Rattle.text.specs.Letters.{letters}
use Rattle.text.specs.Decimal.{decimal}
use Rattle.frames.specs.Marks.{marks, idle}
use Rattle.chart_rows.specs.Scale.{slots_shown, slot_width, number_step, middle}

-- A slot's number, at a place.
unfoldable pub number : ℕ → ℕ → ℕ → List (List ℕ)
number x y slot =
    letters "<text x=\"" ∷ decimal x ∷ letters "\" y=\"" ∷ decimal y ∷ letters "\">" ∷ decimal slot ∷ letters "</text>" ∷ []

-- The number of a slot that has one.
unfoldable pub number_if : ℕ → ℕ → ℕ → List (List ℕ)
number_if slots y slot = cond (eqb (slot % number_step slots) 0) (number (middle (slot_width slots) slot) y slot) []

-- The numbers of the slots, at a height.
unfoldable pub axis : ℕ → ℕ → List (List ℕ)
axis y slots = (letters "<g class=\"numbers\">" ∷ []) ++ (joined (number_if slots y) (slots_shown slots) 0 ++ (letters "</g>\n" ∷ []))

-- How many of a bar's 80 pixels are filled: at least one for any load, and all of them above the capacity.
unfoldable pub bar_filled : ℕ → ℕ → ℕ
bar_filled load capacity = cond (eqb capacity 0) 80 (min 80 (max (min load 1) (80 * load / capacity)))

unfoldable pub bar : List ℕ → ℕ → List (List ℕ)
bar class pixels =
    letters "<rect class=\"" ∷ class ∷ letters "\" x=\"216\" y=\"6\" width=\"" ∷ decimal pixels ∷ letters "\" height=\"9\"/>" ∷ []

-- From nine tenths of the capacity on a link counts as full.
unfoldable pub fill : ℕ → ℕ → List (List ℕ)
fill load capacity = cond (leb (9 * capacity) (10 * load)) (bar (letters "full") (bar_filled load capacity)) (bar (letters "load") (bar_filled load capacity))

unfoldable pub load_text : ℕ → ℕ → List (List ℕ)
load_text load capacity =
    bar (letters "room") 80
    ++ (fill load capacity
    ++ (letters "<text class=\"end\" x=\"404\" y=\"14\">" ∷ decimal load ∷ letters " of " ∷ decimal capacity ∷ letters "</text>\n" ∷ []))

unfoldable pub row_slots : ℕ → ℕ → List (List ℕ)
row_slots offset period =
    letters "<text class=\"grey\" x=\"76\" y=\"14\" font-size=\"11\">from " ∷ decimal offset ∷ letters " every " ∷ decimal period ∷
    letters "</text>\n" ∷ []

unfoldable pub name : ℕ → ℕ → List (List ℕ)
name node y =
    letters "<g id=\"link" ∷ decimal node ∷ letters "\" transform=\"translate(0 " ∷ decimal y ∷
    letters ")\"><text x=\"24\" y=\"14\">link " ∷ decimal node ∷ letters "</text>" ∷ []

-- The beginning of a path of marks, in which a slot is one wide and its mark one high.
unfoldable pub path : List ℕ → ℕ → List (List ℕ)
path class width =
    letters "<path class=\"" ∷ class ∷ letters "\" transform=\"translate(424 10) scale(" ∷ decimal width ∷ letters " 12)\" d=\"" ∷ []

unfoldable pub row_end : List (List ℕ)
row_end = letters "\"/></g>\n" ∷ []

-- The row of a node's link: when it sends, its load beside its capacity, and its slots.
unfoldable pub link_row : Site → ℕ → ℕ → ℕ → ℕ → List (List ℕ)
link_row s node y load slots =
    name node y
    ++ (row_slots (of_link s.offsets node) (of_link s.periods node)
    ++ (load_text load (of_link s.capacities node)
    ++ (path (letters "sends") (slot_width slots)
    ++ (marks (link_sends s node) (slots_shown slots) ++ row_end))))

unfoldable pub idle_name : ℕ → ℕ → List (List ℕ)
idle_name parent y =
    letters "<g id=\"idle" ∷ decimal parent ∷ letters "\" class=\"grey\" transform=\"translate(0 " ∷ decimal y ∷
    letters ")\"><text x=\"24\" y=\"14\">idle</text>\n" ∷ []

-- The row of the slots in which no child of the parent sends.
unfoldable pub idle_row : Site → ℕ → ℕ → ℕ → List (List ℕ)
idle_row s parent y slots =
    idle_name parent y ++ (path (letters "idle") (slot_width slots) ++ (marks (idle s parent) (slots_shown slots) ++ row_end))
