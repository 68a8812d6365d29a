-- The contracts of the exported functions, as the checker reads them, give the equations that claims cite, with all memory lent. `a` holds what is handed in,
-- in the order of the parameters, and `x` what is lent as the call leaves it. A contract that says less gives its law no more.
use mathlib.Core.Path.{◌≡◌}
use Rattle.slot_rule.specs.Assign.{assigned}
use Rattle.host_answers.specs.Answers.{told}
use Rattle.host_calls.specs.Calls.{plan_read_from, schedule_from, start_from, slot_from, sender_from, bound_from}
use Rattle.host_changes.specs.Changes.{admit_from, release_from}
use Rattle.host_lists.specs.Lists.{schedule_read_from, schedule_written_from}
use Rattle.slotplan_lib.proofs.slotplan_read_plan.Reads as reads
use Rattle.slotplan_lib.proofs.slotplan_schedule.Reads as schedules
use Rattle.slotplan_lib.proofs.slotplan_read_schedule.Reads as files
use Rattle.slotplan_lib.proofs.slotplan_write_schedule.Reads as writes
use Rattle.slotplan_lib.proofs.slotplan_admit.Reads as admits
use Rattle.slotplan_lib.proofs.slotplan_release.Reads as releases
use Rattle.slotplan_lib.proofs.slotplan_start.Reads as starts
use Rattle.slotplan_lib.proofs.slotplan_slot.Reads as slots
use Rattle.slotplan_lib.proofs.slotplan_sender.Reads as senders
use Rattle.slotplan_lib.proofs.slotplan_bound.Reads as bounds
use Rattle.slotplan_lib.proofs.slotplan_assign.Reads as assigns

pub read_plan_contract : (κs : _) (a : _) (r : _) (x : _) → reads.Post κs a r x → told r ≡ plan_read_from a.0.now
read_plan_contract κs a r x p = p

pub schedule_contract : (κs : _) (a : _) (r : _) (x : _) → schedules.Post κs a r x → (told r, x.1.0.now) ≡ schedule_from a.0.now a.1.0.now
schedule_contract κs a r x p = p

pub read_schedule_contract : (κs : _) (a : _) (r : _) (x : _) → files.Post κs a r x
    → (told r, x.1.0.now, x.1.1.0.now) ≡ schedule_read_from a.0.now a.1.0.now a.1.1.0.now
read_schedule_contract κs a r x p = p

pub write_schedule_contract : (κs : _) (a : _) (r : _) (x : _) → writes.Post κs a r x
    → (told r, x.1.1.1.0.now) ≡ schedule_written_from a.0 a.1.0.now a.1.1.0.now a.1.1.1.0.now
write_schedule_contract κs a r x p = p

pub admit_contract : (κs : _) (a : _) (r : _) (x : _) → admits.Post κs a r x
    → (told r, x.1.0.now, x.1.1.1.1.1.1.0.now)
    ≡ admit_from a.0.now a.1.0.now
    (record { number = a.1.1.0; entry = a.1.1.1.0; rate = a.1.1.1.1.0; deadline = a.1.1.1.1.1.0 }) a.1.1.1.1.1.1.0.now
admit_contract κs a r x p = p

pub release_contract : (κs : _) (a : _) (r : _) (x : _) → releases.Post κs a r x
    → (told r, x.1.0.now, x.1.1.1.0.now) ≡ release_from a.0.now a.1.0.now a.1.1.0 a.1.1.1.0.now
release_contract κs a r x p = p

pub start_contract : (κs : _) (a : _) (r : _) (x : _) → starts.Post κs a r x → (told r, x.1.0.now) ≡ start_from a.0.now a.1.0.now
start_contract κs a r x p = p

pub slot_contract : (κs : _) (a : _) (r : _) (x : _) → slots.Post κs a r x
    → (told r, x.1.0.now) ≡ slot_from a.0.now a.1.0.now a.1.1.0.now a.1.1.1.0
slot_contract κs a r x p = p

pub sender_contract : (κs : _) (a : _) (r : _) (x : _) → senders.Post κs a r x → told r ≡ sender_from a.0.now a.1.0 a.1.1.0
sender_contract κs a r x p = p

pub bound_contract : (κs : _) (a : _) (r : _) (x : _) → bounds.Post κs a r x → told r ≡ bound_from a.0.now a.1.0
bound_contract κs a r x p = p

pub assign_contract : (κs : _) (a : _) (r : _) (x : _) → assigns.Post κs a r x
    → (told r, x.1.0.now, x.1.1.0.now) ≡ assigned 2 a.0.now a.1.0.now a.1.1.0.now
assign_contract κs a r x p = p
