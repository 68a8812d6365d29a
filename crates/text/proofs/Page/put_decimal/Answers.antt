-- Right because the fewest digits that hold the number are its decimal digits.
use mathlib.Core.Path.{◌∙◌}
use Rattle.slices.proofs.Laws.Put.{put_as}
use Rattle.text.specs.Put.{puts}
use Rattle.text.proofs.Laws.Decimal.{spelled}
use Rattle.text.proofs.Page.put_decimal.Goals as goal

pub returns : goal.returns
unfolding puts
returns c = (c.put.ensures.0, c.put.ensures.1 ∙ put_as _ _ _ (spelled _ _ _ c.decimal-n.ensures.digits c.decimal-n.ensures.len))
