use Prim.Native.Nat.{◌+◌, ◌-◌}
use mathlib.Core.Path.{◌≡◌, ◌∙◌}
use native.Mathlib.Omega.{arith}
use Rattle.sender.proofs.Laws.Answers.{look_start, look_end, look_other, look_here, look_silent}
use Rattle.sender.proofs.sending_child.Goals as goal
use Rattle.sender.proofs.sending_child.Goals.{else-site-i-via-then-site-i+else-sends_in, else-site-i-via-else-site-i}

pub loop-i-init : goal.loop-i-init
loop-i-init c = look_start _ _ _ _ c.link_count-i.ensures

pub returns-then-sends_in : goal.returns-then-sends_in
returns-then-sends_in c =
    let here : c.loop-i.i - 1 + 1 ≡ c.loop-i.i = omega arith in
    here ∙ look_here _ _ _ _ c.loop-i.invariant c.loop-i-test.true c.if-site-i.true _ c.sends_in.ensures c.if-sends_in.true

pub loop-i-preserved : goal.loop-i-preserved
loop-i-preserved c = elim c.else-site-i.branch [
  | else-site-i-via-then-site-i+else-sends_in w ↦
      look_silent _ _ _ _ c.loop-i.invariant c.loop-i-test.true w.if-site-i.true _ w.sends_in.ensures w.if-sends_in.false
  | else-site-i-via-else-site-i w ↦ look_other _ _ _ _ c.loop-i.invariant c.loop-i-test.true w.if-site-i.false
]

pub returns : goal.returns
returns c = look_end _ _ _ _ c.loop-i.invariant (omega arith)
