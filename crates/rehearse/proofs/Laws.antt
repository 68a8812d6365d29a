-- Demand 3 of what a planner types, from the program's own contract: bytes were typed that lead from the start of the rehearsal to the site and the counters that
-- are left, and within 01's premises all that 01 claims of their calls holds of every flow that was live at the start.
use Prim.Native.Nat.{ℕ}
use mathlib.Core.Path.{◌≡◌}
use mathlib.Core.Bool.{true}
use mathlib.Core.List.{List}
use lib.ListN.{length}
use Rattle.rulings.specs.Outcome.{accepted}
use Rattle.site.specs.Sites.{live}
use Rattle.format.specs.Words.{Bytes}
use Rattle.plan_reader.specs.Read.{read_of}
use Rattle.moves.specs.Hops.{own}
use Rattle.guarantee.specs.Runs.{none}
use Rattle.guarantee.specs.Demand.{Allowed, Kept}
use Rattle.rehearsal.specs.Desk.{begun, desk, fed}
use Rattle.rehearsal.proofs.Laws.{rehearsed_kept}
use Rattle.rehearsal.proofs.Laws.Runs.{typed_run}
use Rattle.rehearse.proofs.rehearse_site.Reads as sites

pub program_kept : (κs : _) (a : _) (r : _) (x : _) → sites.Post κs a r x → (bytes : List ℕ) → Bytes bytes → read_of bytes ≡ accepted a.0
    → length a.1.0.now ≡ 576
    → (typed : List ℕ) × (record { site = r; counters = x.1.0.now } ≡ (fed 1000 (desk (begun a.0 a.1.0.now)) typed).state)
    × ((f : ℕ) → live a.0 f ≡ true → Allowed f a.0 (fed 1000 (desk (begun a.0 a.1.0.now)) typed).calls
    → Kept own f (begun a.0 a.1.0.now) (fed 1000 (desk (begun a.0 a.1.0.now)) typed).calls
    (fed 1000 (desk (begun a.0 a.1.0.now)) typed).state
    (typed_run 1000 (begun a.0 a.1.0.now) (desk (begun a.0 a.1.0.now)) typed none))
program_kept κs a r x p bytes small read long =
    (p.0, p.1, λ f on d. rehearsed_kept 1000 bytes a.0 small read a.1.0.now long f on p.0 d)
