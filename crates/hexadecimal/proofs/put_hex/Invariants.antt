-- Right because the bytes before this one are put.
use Rattle.std.proofs.Common.{take}
use Rattle.hexadecimal.specs.Hexadecimal.{spaced_hex}
use Rattle.text.specs.Listed.{each}
use Rattle.text.specs.Page.{Adds}
use Rattle.hexadecimal.proofs.put_hex.Given as goal

abbrev pub invariant-loop-byte : goal.invariant-loop-byte
invariant-loop-byte l = Adds l.initial.page l.page (each spaced_hex (take l.byte-index l.bytes))
