-- Right because the loads are the site's, by which the first link above its capacity is that of 12.
use borrow.Author.Rules.{rules}
use Rattle.reservations.proofs.Laws.Reservations.{over_found}
use Rattle.link_loads.proofs.first_faults.Goals as goal

pub returns : goal.returns
returns c =
    let reserved = c.reserve-late.ensures in
    record {
      link = cc (over_found c.args.site.now c.reserve-late.result.0 (search rules) reserved.sums);
      flow = reserved.flow;
      sums = reserved.sums;
    }
