-- 02, U1, schedules read back: what any schedule bytes read to. A schedule has no parents, so nothing is judged from one link to another.
use Rattle.std.specs.Prelude.{ℕ, ◌+◌, Bool, not, cond, ◌||◌, List, Result, Ok, Err, eqb, leb, length, set}
use Rattle.rulings.specs.declared.Refusal.{Refusal}
use Rattle.rulings.specs.Outcome.{Outcome, Ruling, accepted, refused, or_else, number_of}
use Rattle.format.specs.Bytes.{number_at}
use Rattle.format.specs.Commands.{schedule_size}
use Rattle.format.specs.Reading.{Kind, fault_of, ended, read_from}
use Rattle.schedule_reader.specs.declared.Link.{Link}
use Rattle.schedule_check.specs.declared.Schedule.{Schedule}
use Rattle.schedule_check.specs.Schedules.{of_lists, without_links, bad_slots}

-- 01: a refused reading of a schedule gives the one without links.
unfoldable pub with_links : Outcome Schedule → Ruling × Schedule
with_links o = or_else without_links o

-- 01, command 11, LINK, at index `at`: a byte for the node, two for the offset, two for the period.
unfoldable pub link_at : List ℕ → ℕ → Link
link_at bytes at = record { node = number_at 1 bytes (at + 1); offset = number_at 2 bytes (at + 2); period = number_at 2 bytes (at + 4) }

-- 02, 21: links are numbered from 1 without a gap, and 63 is the last number. A LINK behind so many others has not the next number, or there is none left.
unfoldable pub out_of_order : ℕ → ℕ → Bool
out_of_order links node = leb 63 links || not (eqb node (links + 1))

-- 02, the order of a LINK's own checks: 21, 22.
unfoldable pub link_fault : ℕ → Link → ℕ
link_fault links l = cond (out_of_order links l.node) 21 (cond (bad_slots l.offset l.period) 22 0)

-- What has been read, with one link more.
unfoldable pub link_added : Schedule → Link → Schedule
link_added s l = record {
  links = s.links + 1;
  offsets = set s.offsets s.links l.offset;
  periods = set s.periods s.links l.period;
}

-- Schedules as a kind of file. 02: 10 applies as for plans.
abbrev pub schedules : Kind Schedule Schedule
schedules = record {
  size = schedule_size;
  later = λ bytes at s. link_fault s.links (link_at bytes at);
  after = λ bytes at s. link_added s (link_at bytes at);
  end = ended;
}

-- 02, the order of a command's checks: 3, 2, 21, 22.
abbrev pub schedule_fault : List ℕ → ℕ → Schedule → ℕ
schedule_fault = fault_of schedules

-- What a schedule's bytes read to: a schedule, or a refusal.
unfoldable pub schedule_read : List ℕ → Outcome Schedule
schedule_read bytes = read_from schedules (length bytes) bytes 0 without_links

-- The command at an index, which is not END, as a LINK behind what has been read, or the first check that it fails.
abbrev pub next_link : List ℕ → ℕ → Schedule → Outcome Link
next_link bytes at s = cond (eqb (schedule_fault bytes at s) 0) (accepted (link_at bytes at)) (refused (schedule_fault bytes at s) at)

-- What a reading into two lists comes to, by the links that it tells.
abbrev pub read_into : Result ℕ Refusal → List ℕ → List ℕ → Outcome Schedule
read_into (Ok links) offsets periods = accepted (of_lists links offsets periods)
read_into (Err r) offsets periods = refused (number_of r.fault) r.place
