-- Right because it is the smaller of the count and 63.
use Rattle.site.specs.Sites.{used}
use Rattle.site.proofs.link_count.Goals as goal

pub returns : goal.returns
unfolding used
returns c = c.min.ensures
