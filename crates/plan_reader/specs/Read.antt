-- 01, the checks of a reading in their order: what any bytes read to.
use Rattle.std.specs.Prelude.{ℕ, List}
use Rattle.rulings.specs.Outcome.{Outcome, accepted, refused}
use Rattle.site.specs.declared.Site.{Site}
use Rattle.judgement.specs.Judge.{judge_of}
use Rattle.plan_commands.specs.Commands.{decode}

-- After END come 11, 12 and 13.
unfoldable pub judge_form : Outcome Site → Outcome Site
judge_form (accepted s) = judge_of s
judge_form (refused number place) = refused number place

-- What a plan's bytes read to: a site, or a refusal.
unfoldable pub read_of : List ℕ → Outcome Site
read_of bytes = judge_form (decode bytes)
