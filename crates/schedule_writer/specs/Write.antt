-- What the writers of schedules put into a borrowed slice.
use Rattle.std.specs.Prelude.{ℕ, ◌+◌, List, [], ◌∷◌, ◌++◌, get_or}
use Rattle.rulings.specs.Outcome.{Outcome}
use Rattle.lists.specs.Lists.{joined}
use Rattle.site.specs.declared.Site.{Site}
use Rattle.format.specs.Bytes.{bytes_of}
use Rattle.schedule_check.specs.declared.Schedule.{Schedule}
use Rattle.schedule_check.specs.Check.{schedule_passes}
use Rattle.slices.specs.Written.{handed}

-- 01, command 11, LINK: node, offset and period; and that of the link at index i.
abbrev pub link_command : ℕ → ℕ → ℕ → List ℕ
link_command node offset period = 17 ∷ node ∷ bytes_of 2 offset ++ bytes_of 2 period

unfoldable pub link_bytes : Schedule → ℕ → List ℕ
link_bytes s i = link_command (i + 1) (get_or s.offsets i 0) (get_or s.periods i 0)

-- The schedule of a site: its links, with their offsets and periods.
unfoldable pub schedule_of : Site → Schedule
schedule_of s = record { links = s.links; offsets = s.offsets; periods = s.periods }

-- 01: the LINKs by rising node, END.
unfoldable pub schedule_bytes : Schedule → List ℕ
schedule_bytes s = joined (link_bytes s) s.links 0 ++ (255 ∷ [])

-- 02, U1, the same of a schedule by itself, which has a check 14 of its own.
abbrev pub schedule_written : Schedule → List ℕ → Outcome ℕ × List ℕ
schedule_written s out = handed (schedule_passes s) (schedule_bytes s) out
