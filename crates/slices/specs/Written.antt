-- What a writer leaves in a borrowed slice and answers, whatever it writes.
use Rattle.std.specs.Prelude.{ℕ, Bool, cond, List, ◌++◌, ltb, leb, length, drop}
use Rattle.rulings.specs.Outcome.{Outcome, accepted, refused}

-- 01: a writer fills the front of the borrowed slice and keeps the rest. Too short a slice is 1, judged after all else.
unfoldable pub written : List ℕ → List ℕ → Outcome ℕ × List ℕ
written bytes out = cond (ltb (length out) (length bytes)) (refused 1 0, out) (accepted (length bytes), bytes ++ drop (length bytes) out)

-- 01, the checks of what is handed to a writer: 14, by whether it passes, and then the writing itself.
unfoldable pub handed : Bool → List ℕ → List ℕ → Outcome ℕ × List ℕ
handed passes bytes out = cond passes (written bytes out) (refused 14 0, out)

-- The same where check 14 was asked before: only more links than there can be are refused, since there are no entries for them. On every site that passes
-- the check it is the writing with it: the law `plain_writing`.
unfoldable pub encoded : ℕ → List ℕ → List ℕ → Outcome ℕ × List ℕ
encoded links bytes out = handed (leb links 63) bytes out
