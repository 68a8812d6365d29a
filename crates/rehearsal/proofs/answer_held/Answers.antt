-- Right because a line that is too long is malformed, and any other stands in the space.
use mathlib.Core.Path.{refl}
use Rattle.rehearsal.proofs.Laws.Typing.{held_long, held_whole}
use Rattle.rehearsal.proofs.answer_held.Goals as goal

pub returns-then-space-kept-clause-carried : goal.returns-then-space-kept-clause-carried
returns-then-space-kept-clause-carried c = held_long _ _ _ _ _ _ c.if-space-kept.true refl c.put.ensures.1

pub returns-clause-carried : goal.returns-clause-carried
returns-clause-carried c = held_whole _ _ _ _ _ _ c.if-space-kept.false c.answer_line.ensures.carried
