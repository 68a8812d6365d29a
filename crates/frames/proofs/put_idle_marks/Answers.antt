-- Right because the test is whether a slot is idle.
use borrow.Author.Rules.{rules}
use Rattle.frames.specs.Marks.{idle}
use Rattle.frames.proofs.put_idle_marks.Goals as goal

pub returns : goal.returns
returns c = c.put_marks.ensures (idle c.args.site.now c.args.parent) (λ slot b post. search rules)
