-- Right because the frame is the largest of the periods so far and of those of the children still to come.
use Rattle.std.proofs.Common.{◌≡◌, ◌-◌, max}
use Rattle.lists.specs.Lists.{largest}
use Rattle.site.specs.Sites.{used}
use Rattle.schedule.specs.Schedule.{gaps_from}
use Rattle.frames.specs.Marks.{frame_of}
use Rattle.frames.proofs.frame_under.Given as goal

abbrev pub invariant-loop-i : goal.invariant-loop-i
invariant-loop-i l = frame_of l.site l.parent ≡ max l.longest (largest (gaps_from l.site.parents l.site.periods l.parent (used l.site.links - l.i) l.i))
