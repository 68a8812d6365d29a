use native.Mathlib.Omega.{arith}
use mathlib.Core.Path.{sym, ◌∙◌}
use Rattle.text.specs.Decimal.{is_digit}
use Rattle.line_words.proofs.Laws.Numbers.{reads_start, not_digit, large_value, reads_more, no_number, reads_all}
use Rattle.line_words.proofs.read_number.Goals as goal

pub loop-byte-init : goal.loop-byte-init
loop-byte-init c = reads_start _ _

pub returns-then-not-is_ascii_digit : goal.returns-then-not-is_ascii_digit
unfolding is_digit
returns-then-not-is_ascii_digit c =
    no_number _ _ (not_digit _ _ _ _ c.loop-byte.invariant c.loop-byte-test.true (sym c.if-not-is_ascii_digit.ensures.value))

pub returns-then-from-value : goal.returns-then-from-value
returns-then-from-value c =
    no_number _ _
    (large_value _ _ _ _ c.loop-byte.invariant c.loop-byte-test.true (omega (arith, c.if-from-value.true)))

pub loop-byte-preserved : goal.loop-byte-preserved
unfolding is_digit
loop-byte-preserved c =
    let digit = c.from.ensures in
    rw digit (reads_more _ _ _ _ c.loop-byte.invariant c.loop-byte-test.true (sym c.if-not-is_ascii_digit.ensures.value)
    (omega (arith, c.if-from-value.false)))

pub returns : goal.returns
returns c = c.then_some.ensures ∙ reads_all _ _ _ _ c.loop-byte.invariant c.loop-byte-test.false
