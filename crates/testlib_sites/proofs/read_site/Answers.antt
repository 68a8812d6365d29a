use borrow.Author.Rules.{rules}
use mathlib.Core.Path.{sym}
use lib.Seq.{length-take-le}
use Rattle.testlib_text.proofs.Laws.Hex.{filled_within}
use Rattle.testlib_sites.proofs.Laws.{given_site}
use Rattle.testlib_sites.proofs.read_site.Goals as goal

pub slice_bounds-bytes-end : goal.slice_bounds-bytes-end
slice_bounds-bytes-end c = filled_within _ _ _ _ c.parse_hex-n.ensures

pub slice_bounds-read_plan-end : goal.slice_bounds-read_plan-end
slice_bounds-read_plan-end c = sym (length-take-le _ _ (filled_within _ _ _ _ c.parse_hex-n.ensures))

pub returns : goal.returns
returns c = given_site _ _ _ _ _ _ c.parse_hex-n.ensures (search rules) c.read_plan.ensures
