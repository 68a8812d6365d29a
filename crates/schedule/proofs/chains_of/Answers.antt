use mathlib.Core.Path.{refl}
use native.Mathlib.Omega.{arith}
use Rattle.schedule.proofs.Laws.Schedule.{used_most, chained_start, chained_more}
use Rattle.schedule.proofs.chains_of.Goals as goal

pub loop-i-init : goal.loop-i-init
loop-i-init c = chained_start _ _ _ _ refl refl

pub loop-i-preserved : goal.loop-i-preserved
loop-i-preserved c =
    chained_more _ _ _ _ _ _ c.loop-i.invariant (omega arith) (omega (arith, c.link_count-links.ensures, used_most c.args.site.now.links)) (omega arith)
