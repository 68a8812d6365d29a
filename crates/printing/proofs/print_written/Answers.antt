-- Right because the space has room for the whole text, so the writing is not refused for the want of it.
use mathlib.Core.Path.{refl}
use Rattle.printing.specs.Inner.{front_taken}
use Rattle.printing.proofs.Laws.{whole_taken}
use Rattle.printing.proofs.print_written.Goals as goal

pub returns-in-Ok : goal.returns-in-Ok
unfolding front_taken
returns-in-Ok g c text short gives =
    let wrote = gives _ _ _ (record { shown = _; shows = refl; left = _; met = c.in-Ok.ensures; leaves = refl }) in
    whole_taken text _ _ _ _ short wrote c.print_front.ensures

pub returns-in-Err : goal.returns-in-Err
unfolding front_taken
returns-in-Err g c text short gives =
    let wrote = gives _ _ _ (record { shown = _; shows = refl; left = _; met = c.in-Err.ensures; leaves = refl }) in
    whole_taken text _ _ _ _ short wrote refl
