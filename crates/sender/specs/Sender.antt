-- 01, One slot: which child of a parent sends in a slot, 0 where none does.
use Rattle.std.specs.Prelude.{ℕ, Bool, not, cond, ◌&&◌, eqb, ltb}
use Rattle.rulings.specs.Outcome.{Outcome, accepted, refused}
use Rattle.lists.specs.Search.{last}
use Rattle.site.specs.declared.Site.{Site}
use Rattle.site.specs.Sites.{used}
use Rattle.tree.specs.Tree.{of_link}
use Rattle.schedule.specs.Schedule.{link_sends}
use Rattle.site_check.specs.Check.{passes_of}

-- Node n is a child of p and sends in slot t.
unfoldable pub child_sends : Site → ℕ → ℕ → ℕ → Bool
child_sends s p t n = eqb (of_link s.parents n) p && link_sends s n t

-- The child of p that sends in slot t, 0 where none does. There is never a second one: the law `sender_one`.
unfoldable pub sending_child : Site → ℕ → ℕ → ℕ
sending_child s p t = last (child_sends s p t) (used s.links)

-- 01, the check of a lookup besides 14: 6. The root, number 0, is always a node.
unfoldable pub lookup_of : Site → ℕ → ℕ → Outcome ℕ
lookup_of s p t = cond (ltb s.links p) (refused 6 0) (accepted (sending_child s p t))

-- 01, the order of a lookup's checks: 14, then this.
unfoldable pub sender_of : Site → ℕ → ℕ → Outcome ℕ
sender_of s p t = cond (not (passes_of s)) (refused 14 0) (lookup_of s p t)
