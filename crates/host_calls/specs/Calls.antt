-- What the calls answer that read a plan and change none, and what they leave in the memory lent to them, for every input.
use Rattle.std.specs.Prelude.{ℕ, ◌+◌, ◌*◌, List}
use Rattle.rulings.specs.Outcome.{Outcome, Ruling, accepted, refused}
use Rattle.reservations.specs.Reservations.{delay_bound}
use Rattle.site.specs.Sites.{flow_count}
use Rattle.plan_reader.specs.Read.{read_of}
use Rattle.schedule_writer.specs.Write.{schedule_of, schedule_bytes}
use Rattle.site_check.specs.Check.{written_if}
use Rattle.flow_checks.specs.Flows.{number_ruling}
use Rattle.sender.specs.Sender.{sender_of}
use Rattle.moves.specs.Hops.{own}
use Rattle.simulation.specs.Slot.{slot_of, start_of}
use Rattle.host_answers.specs.Answers.{valued}
use Rattle.host_answers.specs.Calls.{by_reading, on_site, of_length}

-- Mark: the numbers of links and of flows, in one value.
unfoldable pub plan_read_from : List ℕ → Outcome ℕ
plan_read_from bytes = by_reading (read_of bytes) (λ number place. refused number place) (λ s. accepted (s.links + 256 * flow_count s))

-- Schedule: what refuses the reading, then the writer's own check of the slice.
unfoldable pub schedule_from : List ℕ → List ℕ → Outcome ℕ × List ℕ
schedule_from bytes out =
    by_reading (read_of bytes) (λ number place. (refused number place, out))
    (λ s. written_if s (schedule_bytes (schedule_of s)) out)

-- What a start or a slot answers and leaves; there is no value.
unfoldable pub answered : Ruling × List ℕ → Outcome ℕ × List ℕ
answered (r, counters) = (valued r 0, counters)

-- Start: 1, 14.
unfoldable pub start_from : List ℕ → List ℕ → Outcome ℕ × List ℕ
start_from bytes counters =
    of_length counters 576 (refused 1 0, counters) (on_site bytes (refused 14 0, counters) (λ s. answered (start_of s counters)))

-- Slot: 1 for both lists, 14, 19, 20.
unfoldable pub slot_from : List ℕ → List ℕ → List ℕ → ℕ → Outcome ℕ × List ℕ
slot_from bytes counters arrivals t =
    of_length counters 576 (refused 1 0, counters)
    (of_length arrivals 64 (refused 1 0, counters)
    (on_site bytes (refused 14 0, counters) (λ s. answered (slot_of own s counters arrivals t))))

-- Sender: 14, 6.
unfoldable pub sender_from : List ℕ → ℕ → ℕ → Outcome ℕ
sender_from bytes parent t = on_site bytes (refused 14 0) (λ s. sender_of s parent t)

-- Bound: 14, then those of a release, 5 and 16; the value is 01's G.
unfoldable pub bound_from : List ℕ → ℕ → Outcome ℕ
bound_from bytes n = on_site bytes (refused 14 0) (λ s. valued (number_ruling s n) (delay_bound s n))
