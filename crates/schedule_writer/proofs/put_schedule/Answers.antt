-- Right because the links and FF stand one after the other, and their number of bytes is known before the first is stored.
use native.Mathlib.Omega.{arith}
use Rattle.schedule_check.specs.Schedules.{of_lists}
use Rattle.slices.proofs.Laws.Stores.{written_short, written_all}
use Rattle.schedule_writer.proofs.Laws.Write.{links_size, schedule_size_lem, schedule_sets}
use Rattle.schedule_writer.proofs.put_schedule.Goals as goal

pub returns-then-out-size : goal.returns-then-out-size
returns-then-out-size c =
    let s = of_lists c.args.links c.args.offsets.now c.args.periods.now in
    rw c.at.ensures (written_short _ _ _ (schedule_size_lem s _ c.schedule_size.ensures) (omega arith))

pub put_links-end-requires : goal.put_links-end-requires
put_links-end-requires c =
    (omega arith, omega (arith, links_size (of_lists c.args.links c.args.offsets.now c.args.periods.now) _ c.schedule_size.ensures))

pub bounds-out-end : goal.bounds-out-end
bounds-out-end c =
    omega (arith, links_size (of_lists c.args.links c.args.offsets.now c.args.periods.now) _ c.schedule_size.ensures, c.put_links-end.ensures.1)

pub returns : goal.returns
returns c =
    let s = of_lists c.args.links c.args.offsets.now c.args.periods.now in
    let put = c.put_links-end.ensures in
    written_all _ _ _ (schedule_size_lem s _ c.schedule_size.ensures) _ (omega arith) (schedule_sets s _ _ _ put.0 put.1)
