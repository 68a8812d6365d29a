use Rattle.testlib_text.proofs.Laws.Hex.{parsed_end}
use Rattle.testlib_text.proofs.parse_hex.Goals as goal

pub returns : goal.returns
returns c = parsed_end _ _ _ _ _ _ c.loop-c.invariant c.loop-c-test.false
