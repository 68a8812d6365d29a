-- Right because the depth is one more than the parent's, and 0 where there is no way up; the node's number falls.
use Rattle.tree.proofs.+depth.Given as goal

abbrev pub decreases-depth : goal.decreases-depth
decreases-depth l = l.node
