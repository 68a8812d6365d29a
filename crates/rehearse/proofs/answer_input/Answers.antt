use borrow.Author.Rules.{rules}
use mathlib.Core.Path.{refl}
use mathlib.Core.List.{◌++◌, []}
use Rattle.rehearsal.proofs.Laws.Runs.{goes_none, goes_then}
use Rattle.rehearse.proofs.answer_input.Goals as goal

pub loop-init : goal.loop-init
loop-init c = record { goes = record { typed = []; goes = goes_none _ _ _ }; space_long = refl; counters_long = refl; bytes_long = refl }

pub loop-preserved : goal.loop-preserved
loop-preserved c =
    let before = c.loop.invariant.goes in record {
      goes = record { typed = before.typed ++ _; goes = goes_then _ _ _ _ _ _ _ _ _ before.typed _ before.goes c.loop.invariant.space_long c.answer_bytes-now.ensures };
      space_long = search rules;
      counters_long = search rules;
      bytes_long = search rules;
    }
