use native.Mathlib.Omega.{arith}
use Rattle.text.specs.Decimal.{is_digit}
use Rattle.testlib_text.proofs.Laws.Lines.{scan_hit, scan_miss, scan_none}
use Rattle.testlib_text.proofs.scan.Goals as goal

pub returns-then-is_ascii_digit-digit : goal.returns-then-is_ascii_digit-digit
unfolding is_digit
returns-then-is_ascii_digit-digit c =
    scan_hit _ _ _ _ c.loop-at.invariant c.loop-at-test.true _ c.is_ascii_digit.ensures.value c.if-is_ascii_digit-digit.true

pub loop-at-preserved : goal.loop-at-preserved
unfolding is_digit
loop-at-preserved c =
    scan_miss _ _ _ _ c.loop-at.invariant c.loop-at-test.true _ c.is_ascii_digit.ensures.value c.if-is_ascii_digit-digit.false

pub returns : goal.returns
returns c = scan_none _ _ _ _ c.loop-at.invariant (omega arith)
