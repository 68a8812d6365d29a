-- Right because no byte from the start to the index is such a one.
use mathlib.Core.Path.{◌≡◌}
use Rattle.testlib_text.specs.Lines.{scanned}
use Rattle.testlib_text.proofs.scan.Given as goal

abbrev pub invariant-loop-at : goal.invariant-loop-at
invariant-loop-at l = scanned l.line l.start l.digit ≡ scanned l.line l.at l.digit
