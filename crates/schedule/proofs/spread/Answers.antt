use native.Mathlib.Omega.{arith}
use Rattle.schedule.proofs.Laws.Schedule.{used_most, chained_rising, chained_chain, handing_start, handing_more}
use Rattle.schedule.proofs.spread.Goals as goal

pub loop-i-init : goal.loop-i-init
loop-i-init c =
    let chain = chained_chain _ _ _ _ (rw (← c.link_count-links.ensures) at c.requires) c.args.parent (omega arith) in
    (chain.head.within, omega arith, handing_start _ _ _ _ _ _ _ chain (omega arith), handing_start _ _ _ _ _ _ _ chain (omega arith))

pub loop-i-preserved : goal.loop-i-preserved
loop-i-preserved c =
    let chained = rw (← c.link_count-links.ensures) at c.requires in
    let chain = chained_chain _ _ _ _ chained c.args.parent (omega arith) in
    let step = (chained_rising _ _ _ _ chained).step c.loop-i.i c.loop-i-test.true in
    let sofar = c.loop-i.invariant in
    let few = used_most c.args.site.now.links in (
      step.1,
      omega (arith, step.0),
      handing_more _ _ _ _ _ _ _ chain _ _ _ sofar.2 c.loop-i-test.true (omega (arith, c.link_count-links.ensures, few)),
      handing_more _ _ _ _ _ _ _ chain _ _ _ sofar.3 c.loop-i-test.true (omega (arith, c.link_count-links.ensures, few)),
    )
