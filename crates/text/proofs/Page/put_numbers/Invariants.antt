-- Right because the numbers before this one are put.
use Rattle.std.proofs.Common.{take}
use Rattle.text.specs.Listed.{each, spaced_decimal}
use Rattle.text.specs.Page.{Adds}
use Rattle.text.proofs.Page.put_numbers.Given as goal

abbrev pub invariant-loop-number : goal.invariant-loop-number
invariant-loop-number l = Adds l.initial.self l.self (each spaced_decimal (take l.number-index l.numbers))
