-- Right because the site has these states.
use Rattle.site.proofs.Site.flow_count.Goals as goal

pub returns : goal.returns
returns c = c.live_count.ensures c.args.self.now
