use borrow.Author.Rules.{rules}
use mathlib.Core.Path.{sym, ◌∙◌}
use Rattle.frames.proofs.Laws.Slots.{silent_met, silent_child, silent_other, silent_end}
use Rattle.frames.proofs.is_idle.Goals as goal
use Rattle.frames.proofs.is_idle.Goals.{else-site-i-via-then-site-i+else-sends_in, else-site-i-via-else-site-i}

pub returns-then-sends_in : goal.returns-then-sends_in
returns-then-sends_in c =
    silent_met _ _ _ _ _ c.loop-i.invariant (search rules) c.if-site-i.true (sym c.sends_in.ensures ∙ c.if-sends_in.true)

pub loop-i-preserved : goal.loop-i-preserved
loop-i-preserved c =
    elim c.else-site-i.branch [
      | else-site-i-via-then-site-i+else-sends_in w ↦ silent_child _ _ _ _ _ c.loop-i.invariant (search rules) w.if-site-i.true (sym w.sends_in.ensures ∙ w.if-sends_in.false)
      | else-site-i-via-else-site-i w ↦ silent_other _ _ _ _ _ c.loop-i.invariant (search rules) w.if-site-i.false
    ]

pub returns : goal.returns
returns c = silent_end _ _ _ _ _ c.loop-i.invariant (search rules)
