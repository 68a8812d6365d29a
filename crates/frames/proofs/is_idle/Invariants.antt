-- Right because no link before this one is a child that sends.
use Rattle.site.specs.Sites.{used}
use Rattle.frames.proofs.Laws.Slots.{Silent}
use Rattle.frames.proofs.is_idle.Given as goal

abbrev pub invariant-loop-i : goal.invariant-loop-i
invariant-loop-i l = Silent l.site l.parent l.slot (used l.site.links) l.i
