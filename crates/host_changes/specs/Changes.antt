-- What an admission and a release over plan bytes answer, and what they leave in the memory lent to them, for every input.
use Rattle.std.specs.Prelude.{ℕ, List}
use Rattle.rulings.specs.Outcome.{Outcome, Ruling, accepted, refused}
use Rattle.site.specs.declared.Site.{Site}
use Rattle.site.specs.declared.Flow.{Flow}
use Rattle.plan_writer.specs.Write.{plan_bytes}
use Rattle.site_check.specs.Check.{written_if}
use Rattle.admission.specs.Calls.{admit_of, release_of}
use Rattle.host_answers.specs.Calls.{on_site, of_length}

-- What a writing leaves of the counters: the new ones only where the bytes found room.
unfoldable pub stored_with : Outcome ℕ × List ℕ → List ℕ → List ℕ → Outcome ℕ × List ℕ × List ℕ
stored_with (accepted size, bytes) new counters = (accepted size, new, bytes)
stored_with (refused number place, bytes) new counters = (refused number place, counters, bytes)

-- A change of the site as its new plan bytes.
unfoldable pub rewritten : Ruling × Site × List ℕ → List ℕ → List ℕ → Outcome ℕ × List ℕ × List ℕ
rewritten (accepted a, next, new) counters out = stored_with (written_if next (plan_bytes next) out) new counters
rewritten (refused number place, next, new) counters out = (refused number place, counters, out)

-- Admit and release: 1 for the counters, 14, the checks of the change, and last 1 for the slice.
unfoldable pub admit_from : List ℕ → List ℕ → Flow → List ℕ → Outcome ℕ × List ℕ × List ℕ
admit_from bytes counters f out =
    of_length counters 576 (refused 1 0, counters, out)
    (on_site bytes (refused 14 0, counters, out) (λ s. rewritten (admit_of s counters f) counters out))

unfoldable pub release_from : List ℕ → List ℕ → ℕ → List ℕ → Outcome ℕ × List ℕ × List ℕ
release_from bytes counters n out =
    of_length counters 576 (refused 1 0, counters, out)
    (on_site bytes (refused 14 0, counters, out) (λ s. rewritten (release_of s counters n) counters out))
