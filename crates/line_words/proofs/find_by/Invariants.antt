-- Right because no byte before the index passes the test.
use Rattle.std.proofs.Common.{ℕ, ◌≤◌, ◌<◌, get_or, false}
use Rattle.line_words.proofs.find_by.Given as goal

abbrev pub invariant-loop-at : goal.invariant-loop-at
invariant-loop-at g l = (i : ℕ) → l.from ≤ i → i < l.at → g.F.Fn.post l.test (get_or l.text i 0, tt) false
