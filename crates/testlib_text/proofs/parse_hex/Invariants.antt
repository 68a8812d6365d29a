-- Right because the bytes of the digits before the index are stored.
use Rattle.testlib_text.proofs.Laws.Hex.{Parsed}
use Rattle.testlib_text.proofs.parse_hex.Given as goal

abbrev pub invariant-loop-c : goal.invariant-loop-c
invariant-loop-c l = Parsed l.line l.initial.bytes l.c-index l.high l.n l.bytes
