-- Right because the site has these states.
use Rattle.site.proofs.Site.is_live.Goals as goal

pub returns : goal.returns
returns c = c.live_in.ensures c.args.self.now
