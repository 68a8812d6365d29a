-- Right because the period and the offset are those of the link, and a node without one never sends.
use borrow.Author.Rules.{rules}
use mathlib.Core.Path.{◌≡◌, ◌∙◌}
use native.Mathlib.Omega.{arith}
use Rattle.slot_rule.specs.Rule.{sends}
use Rattle.schedule.specs.Schedule.{link_sends}
use Rattle.frames.proofs.Laws.Slots.{sends_node}
use Rattle.frames.proofs.put_link_marks.Goals as goal

pub returns : goal.returns
returns c =
    c.put_marks.ensures (link_sends c.args.site.now c.args.node) (λ slot b post.
    let is : b ≡ sends c.value_of-period.result c.value_of-offset.result slot = search rules in
    is ∙ rw (c.value_of-period.ensures, c.value_of-offset.ensures) (sends_node c.args.site.now c.args.node slot (omega arith) (omega arith)))
