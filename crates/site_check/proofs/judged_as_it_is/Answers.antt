-- Right because the site with its schedule, with which both lists are compared, is what the judgement gives.
use Rattle.site_check.proofs.Laws.Check.{stands_as}
use Rattle.site_check.proofs.judged_as_it_is.Goals as goal
use Rattle.site_check.proofs.judged_as_it_is.Goals.{then-is_ok, else-is_ok}

pub returns-then-eq : goal.returns-then-eq
returns-then-eq c =
    let all = stands_as c.args.site.now _ _ c.settle.ensures.judged in
    elim c.if-is_ok.branch [
      | then-is_ok w ↦ rw (all, ← c.is_ok.ensures.value, w.if-is_ok.true, ← w.eq.ensures, ← w.value-is, c.if-eq.true) c.eq-then-eq.ensures
      | else-is_ok w ↦ absurd cc
    ]

pub returns-else-eq : goal.returns-else-eq
returns-else-eq c =
    let all = stands_as c.args.site.now _ _ c.settle.ensures.judged in
    elim c.if-is_ok.branch [
      | then-is_ok w ↦ rw (all, ← c.is_ok.ensures.value, w.if-is_ok.true, ← w.eq.ensures, ← w.value-is, c.if-eq.false)
      | else-is_ok w ↦ rw (all, ← c.is_ok.ensures.value, w.if-is_ok.false, c.if-eq.false)
    ]
