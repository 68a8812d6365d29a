-- Each export promises what the function of its name in `slotplan_lib` promises, whose laws read the equations from there. `a` holds what is handed in, in the
-- order of the parameters, and `x` what is lent as the call leaves it. A contract that says less gives its law no more.
use Rattle.slotplan_lib_c.proofs.slotplan_read_plan.Reads as export_read_plan
use Rattle.slotplan_lib.proofs.slotplan_read_plan.Reads as library_read_plan
use Rattle.slotplan_lib_c.proofs.slotplan_schedule.Reads as export_schedule
use Rattle.slotplan_lib.proofs.slotplan_schedule.Reads as library_schedule
use Rattle.slotplan_lib_c.proofs.slotplan_read_schedule.Reads as export_read_schedule
use Rattle.slotplan_lib.proofs.slotplan_read_schedule.Reads as library_read_schedule
use Rattle.slotplan_lib_c.proofs.slotplan_write_schedule.Reads as export_write_schedule
use Rattle.slotplan_lib.proofs.slotplan_write_schedule.Reads as library_write_schedule
use Rattle.slotplan_lib_c.proofs.slotplan_admit.Reads as export_admit
use Rattle.slotplan_lib.proofs.slotplan_admit.Reads as library_admit
use Rattle.slotplan_lib_c.proofs.slotplan_release.Reads as export_release
use Rattle.slotplan_lib.proofs.slotplan_release.Reads as library_release
use Rattle.slotplan_lib_c.proofs.slotplan_start.Reads as export_start
use Rattle.slotplan_lib.proofs.slotplan_start.Reads as library_start
use Rattle.slotplan_lib_c.proofs.slotplan_slot.Reads as export_slot
use Rattle.slotplan_lib.proofs.slotplan_slot.Reads as library_slot
use Rattle.slotplan_lib_c.proofs.slotplan_sender.Reads as export_sender
use Rattle.slotplan_lib.proofs.slotplan_sender.Reads as library_sender
use Rattle.slotplan_lib_c.proofs.slotplan_bound.Reads as export_bound
use Rattle.slotplan_lib.proofs.slotplan_bound.Reads as library_bound
use Rattle.slotplan_lib_c.proofs.slotplan_assign.Reads as export_assign
use Rattle.slotplan_lib.proofs.slotplan_assign.Reads as library_assign

pub read_plan_exported : (κs : _) (a : _) (r : _) (x : _) → export_read_plan.Post κs a r x → library_read_plan.Post κs a r x
read_plan_exported κs a r x p = p

pub schedule_exported : (κs : _) (a : _) (r : _) (x : _) → export_schedule.Post κs a r x → library_schedule.Post κs a r x
schedule_exported κs a r x p = p

pub read_schedule_exported : (κs : _) (a : _) (r : _) (x : _) → export_read_schedule.Post κs a r x → library_read_schedule.Post κs a r x
read_schedule_exported κs a r x p = p

pub write_schedule_exported : (κs : _) (a : _) (r : _) (x : _) → export_write_schedule.Post κs a r x → library_write_schedule.Post κs a r x
write_schedule_exported κs a r x p = p

pub admit_exported : (κs : _) (a : _) (r : _) (x : _) → export_admit.Post κs a r x → library_admit.Post κs a r x
admit_exported κs a r x p = p

pub release_exported : (κs : _) (a : _) (r : _) (x : _) → export_release.Post κs a r x → library_release.Post κs a r x
release_exported κs a r x p = p

pub start_exported : (κs : _) (a : _) (r : _) (x : _) → export_start.Post κs a r x → library_start.Post κs a r x
start_exported κs a r x p = p

pub slot_exported : (κs : _) (a : _) (r : _) (x : _) → export_slot.Post κs a r x → library_slot.Post κs a r x
slot_exported κs a r x p = p

pub sender_exported : (κs : _) (a : _) (r : _) (x : _) → export_sender.Post κs a r x → library_sender.Post κs a r x
sender_exported κs a r x p = p

pub bound_exported : (κs : _) (a : _) (r : _) (x : _) → export_bound.Post κs a r x → library_bound.Post κs a r x
bound_exported κs a r x p = p

pub assign_exported : (κs : _) (a : _) (r : _) (x : _) → export_assign.Post κs a r x → library_assign.Post κs a r x
assign_exported κs a r x p = p
