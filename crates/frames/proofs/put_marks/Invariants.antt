-- Right because the marks of the slots below this one are put, whatever the test is called.
use Rattle.std.proofs.Common.{◌≡◌, ℕ, Bool}
use Rattle.lists.specs.Lists.{joined}
use Rattle.text.specs.Page.{Adds}
use Rattle.frames.specs.Marks.{mark_if}
use Rattle.frames.proofs.put_marks.Given as goal

abbrev pub invariant-loop-slot : goal.invariant-loop-slot
invariant-loop-slot g l = (marked : ℕ → Bool) → ((slot : ℕ) (b : Bool) → g.F.Fn.post l.test (slot, tt) b → b ≡ marked slot) → Adds l.initial.page l.page (joined (mark_if marked) l.slot 0)
