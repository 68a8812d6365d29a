use mathlib.Core.Path.{◌≡◌, refl, sym, ◌∙◌}
use native.Mathlib.Omega.{arith}
use Rattle.lists.specs.Lists.{joined}
use Rattle.report_lines.proofs.Laws.Lines.{lines}
use Rattle.text.specs.Put.{puts}
use Rattle.frames.specs.Marks.{mark, marks}
use Rattle.frames.proofs.Laws.Slots.{mark_here, mark_none}
use Rattle.frames.proofs.put_marks.Goals as goal
use Rattle.frames.proofs.put_marks.Goals.{then-test, else-test}

pub loop-slot-init : goal.loop-slot-init
unfolding joined puts
loop-slot-init g c marked told = (refl, refl)

pub loop-slot-preserved : goal.loop-slot-preserved
unfolding puts mark
loop-slot-preserved g c marked told =
    let sofar = c.loop-slot.invariant marked told in
    let here = told _ _ c.test.ensures in
    elim c.if-test.branch [
      | then-test w ↦ let is = mark_here marked _ (sym here ∙ w.if-test.true) in grind (arith, lines, sofar, is)
      | else-test w ↦ let is = mark_none marked _ (sym here ∙ w.if-test.false) in grind (arith, lines, sofar, is)
    ]

pub returns : goal.returns
unfolding marks
returns g c marked told =
    let all : c.loop-slot.slot ≡ c.args.slots = omega arith in
    let done = c.loop-slot.invariant marked told in
    rw (← all) done
