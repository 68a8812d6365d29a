-- A borrowed space with text at its front.
use Rattle.std.specs.Prelude.{◌≡◌, ℕ, cond, List, [], leb, length, take}
use Rattle.text.specs.declared.Page.{Page}
use Rattle.text.specs.Put.{puts}

-- What a page holds: how many bytes are taken, and all of them.
abbrev pub held : Page → ℕ × List ℕ
held p = (p.taken, p.space.now)

-- The pieces are put behind what the page held, in the same space.
abbrev pub Adds : Page → Page → List (List ℕ) → Type 0
Adds old new pieces = (new.space.ghost_name ≡ old.space.ghost_name) × (held new ≡ puts (held old) pieces)

-- What a page shows: the bytes that are taken, none where there was no room for a piece.
unfoldable pub shown : ℕ × List ℕ → List ℕ
shown (at, out) = cond (leb at (length out)) (take at out) []
