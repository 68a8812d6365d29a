-- A host's calls: the eleven functions of include/slotplan_lib.h with what each is handed, and what each answers and leaves by the definition that its contract cites.
use Rattle.std.specs.Prelude.{ℕ, List, [], ◌∷◌}
use Rattle.rulings.specs.Outcome.{Outcome}
use Rattle.site.specs.declared.Flow.{Flow}
use Rattle.slot_rule.specs.Assign.{assigned}
use Rattle.host_calls.specs.Calls.{plan_read_from, schedule_from, start_from, slot_from, sender_from, bound_from}
use Rattle.host_changes.specs.Changes.{admit_from, release_from}
use Rattle.host_lists.specs.Lists.{schedule_read_from, schedule_written_from}

-- The header's functions in its order. Memory is handed in as the list of its elements.
pub data HostCall : Type 0 where
  read_plan : (plan : List ℕ) → HostCall
  schedule : (plan out : List ℕ) → HostCall
  read_schedule : (file offsets periods : List ℕ) → HostCall
  write_schedule : (links : ℕ) (offsets periods out : List ℕ) → HostCall
  admit : (plan counters : List ℕ) → Flow → (out : List ℕ) → HostCall
  release : (plan counters : List ℕ) (number : ℕ) (out : List ℕ) → HostCall
  start : (plan counters : List ℕ) → HostCall
  slot : (plan counters arrivals : List ℕ) (number : ℕ) → HostCall
  sender : (plan : List ℕ) (parent number : ℕ) → HostCall
  bound : (plan : List ℕ) (number : ℕ) → HostCall
  assign : (gaps offsets periods : List ℕ) → HostCall

-- The memory that a call may write, as the host lends it: behind the header's pointers that are not const, in their order.
unfoldable pub lent_to : HostCall → List (List ℕ)
lent_to (read_plan plan) = []
lent_to (schedule plan out) = out ∷ []
lent_to (read_schedule file offsets periods) = offsets ∷ periods ∷ []
lent_to (write_schedule links offsets periods out) = out ∷ []
lent_to (admit plan counters f out) = counters ∷ out ∷ []
lent_to (release plan counters n out) = counters ∷ out ∷ []
lent_to (start plan counters) = counters ∷ []
lent_to (slot plan counters arrivals t) = counters ∷ []
lent_to (sender plan parent t) = []
lent_to (bound plan n) = []
lent_to (assign gaps offsets periods) = offsets ∷ periods ∷ []

-- An answer with the memory that is left, where one list is lent and where two are.
abbrev pub leaving_one : Outcome ℕ × List ℕ → Outcome ℕ × List (List ℕ)
leaving_one w = (w.0, w.1 ∷ [])

abbrev pub leaving_two : Outcome ℕ × List ℕ × List ℕ → Outcome ℕ × List (List ℕ)
leaving_two w = (w.0, w.1 ∷ w.2 ∷ [])

-- 01: what a call answers, and what it leaves in the memory lent to it.
unfoldable pub came_to : HostCall → Outcome ℕ × List (List ℕ)
came_to (read_plan plan) = (plan_read_from plan, [])
came_to (schedule plan out) = leaving_one (schedule_from plan out)
came_to (read_schedule file offsets periods) = leaving_two (schedule_read_from file offsets periods)
came_to (write_schedule links offsets periods out) = leaving_one (schedule_written_from links offsets periods out)
came_to (admit plan counters f out) = leaving_two (admit_from plan counters f out)
came_to (release plan counters n out) = leaving_two (release_from plan counters n out)
came_to (start plan counters) = leaving_one (start_from plan counters)
came_to (slot plan counters arrivals t) = leaving_one (slot_from plan counters arrivals t)
came_to (sender plan parent t) = (sender_from plan parent t, [])
came_to (bound plan n) = (bound_from plan n, [])
came_to (assign gaps offsets periods) = leaving_two (assigned 2 gaps offsets periods)
