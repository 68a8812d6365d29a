use native.Mathlib.Omega.{arith}
use Rattle.line_words.proofs.Laws.Operands.{reading_more, reading_wrong, reading_many, reading_done}
use Rattle.line_words.proofs.read_operands.Goals as goal

pub loop-i-preserved : goal.loop-i-preserved
loop-i-preserved g c =
    reading_more _ _ _ _ _ c.loop-i.invariant (omega (arith, c.told-limits)) _ _ c.in-Some.ensures.0 c.in-Some.ensures.1.0

pub returns-in_default : goal.returns-in_default
returns-in_default g c =
    (reading_wrong _ _ _ _ _ c.loop-i.invariant (omega (arith, c.told-limits)) _ _ c.in_default.ensures.0, omega arith)

pub returns-then-not-blank : goal.returns-then-not-blank
returns-then-not-blank g c =
    (reading_many _ _ _ _ _ c.loop-i.invariant (omega (arith, c.told-limits)) g.row.N (omega arith) c.if-not-blank.ensures, omega arith)

pub returns : goal.returns
returns g c = (
  reading_done _ _ _ _ _ c.loop-i.invariant (omega (arith, c.told-limits)) c.if-not-blank.ensures,
  λ k l. c.loop-i.invariant.numbers k (omega arith),
)
