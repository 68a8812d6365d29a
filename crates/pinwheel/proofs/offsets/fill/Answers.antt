use mathlib.Core.Path.{refl, ◌∙◌}
use Rattle.lists.proofs.Laws.Search.{some_is, none_is}
use Rattle.pinwheel.proofs.Laws.Turns.{upto_start, upto_ready, upto_next, upto_end}
use Rattle.pinwheel.proofs.offsets.fill.Goals as goal

pub loop-period-init : goal.loop-period-init
loop-period-init c =
    let pre = c.requires in
    upto_start _ _ _ _ pre.2 pre.0 refl refl

pub fill_level-requires : goal.fill_level-requires
fill_level-requires c =
    let pre = c.requires in
    let sofar = c.loop-period.invariant in
    let next = c.in-Some.ensures in
    let is = some_is _ _ next.2 in
    (sofar.long, pre.1, pre.2, rw is.0 (upto_ready _ _ _ _ _ _ _ _ sofar _ next.1 is.1))

pub loop-period-preserved : goal.loop-period-preserved
loop-period-preserved c =
    let sofar = c.loop-period.invariant in
    let next = c.in-Some.ensures in
    let is = some_is _ _ next.2 in
    let level = c.fill_level in
    let turns = rw is.0 at level.ensures.0 in
    let ready = rw is.0 at level.ensures.1 in
    rw is.0 (upto_next _ _ _ _ _ _ _ _ sofar _ next.1 is.1 _ _ _ _ _ turns ready (level.auto.offsets ∙ sofar.long))

pub returns : goal.returns
returns c =
    let pre = c.requires in
    let none = c.in_default.ensures in
    upto_end _ _ _ _ _ _ _ _ c.loop-period.invariant _ none.1 pre.2 pre.0 (none_is _ none.2)
