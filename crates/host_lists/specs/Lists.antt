-- What the calls answer that read a schedule file to lists and write one from lists, and what they leave in the memory lent to them, for every input.
use Rattle.std.specs.Prelude.{ℕ, List}
use Rattle.rulings.specs.Outcome.{Outcome, accepted, refused}
use Rattle.schedule_check.specs.declared.Schedule.{Schedule}
use Rattle.schedule_check.specs.Schedules.{of_lists}
use Rattle.schedule_reader.specs.Read.{schedule_read}
use Rattle.schedule_writer.specs.Write.{schedule_written}
use Rattle.host_answers.specs.Calls.{by_reading, of_length}

-- What a schedule fills a host's memory with: the number of links, and both lists.
abbrev pub links_of : Schedule → Outcome ℕ × List ℕ × List ℕ
links_of s = (accepted s.links, s.offsets, s.periods)

-- 02, U1. Read a schedule: 1 for both lists, then what refuses the reading. The value is the number of links, and the lists hold the schedule's.
unfoldable pub schedule_read_from : List ℕ → List ℕ → List ℕ → Outcome ℕ × List ℕ × List ℕ
schedule_read_from file offsets periods =
    of_length offsets 63 (refused 1 0, offsets, periods)
    (of_length periods 63 (refused 1 0, offsets, periods)
    (by_reading (schedule_read file) (λ number place. (refused number place, offsets, periods)) links_of))

-- Write one: 1 for both lists, 14, and last 1 for the slice.
unfoldable pub schedule_written_from : ℕ → List ℕ → List ℕ → List ℕ → Outcome ℕ × List ℕ
schedule_written_from links offsets periods out =
    of_length offsets 63 (refused 1 0, out)
    (of_length periods 63 (refused 1 0, out) (schedule_written (of_lists links offsets periods) out))
