use mathlib.Core.Path.{◌≡◌}
use native.Mathlib.Omega.{arith}
use Rattle.schedule.proofs.Laws.Schedule.{used_most, chained_rising, chained_chain, gathering_start, gathering_more, gathered_all}
use Rattle.schedule.proofs.gaps_under.Goals as goal

pub loop-i-init : goal.loop-i-init
loop-i-init c =
    let chain = chained_chain _ _ _ _ (rw (← c.link_count-links.ensures) at c.requires) c.args.parent (omega arith) in
    (chain.head.within, omega arith, gathering_start _ _ _ _ _ _ chain _ (omega arith))

pub loop-i-preserved : goal.loop-i-preserved
loop-i-preserved c =
    let chained = rw (← c.link_count-links.ensures) at c.requires in
    let chain = chained_chain _ _ _ _ chained c.args.parent (omega arith) in
    let step = (chained_rising _ _ _ _ chained).step c.loop-i.i c.loop-i-test.true in
    let sofar = c.loop-i.invariant in
    (step.1, omega (arith, step.0), gathering_more _ _ _ _ _ _ chain _ _ _ sofar.2 c.loop-i-test.true (omega (arith, c.link_count-links.ensures, used_most c.args.site.now.links)))

pub returns : goal.returns
returns c =
    let end : c.loop-i.i ≡ c.link_count-links.result = omega arith in
    gathered_all _ _ _ _ _ c.link_count-links.ensures (rw end at c.loop-i.invariant.2.gathered)
