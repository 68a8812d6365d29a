-- 02, U2, accepts more than was accepted before: a plan that 12 refused by wanted gaps, and one that 13 did.
use Prim.Native.Nat.{ℕ, zero, suc, ◌<◌}
use mathlib.Core.Path.{◌≡◌, refl}
use mathlib.Core.List.{List, [], ◌∷◌}
use native.Mathlib.Omega.{arith}
use Rattle.rulings.specs.Outcome.{accepted, refused, or_else}
use Rattle.lists.specs.Search.{last, first, any}
use Rattle.lists.specs.Lists.{total, largest, least, smallest, sum_to, listed}
use Rattle.slot_rule.specs.Rule.{exponent, period, sum, limit, fits, base, periods_of, sends, earlier, taken, free_offset, turn, level, levels, offsets_for}
use Rattle.slot_rule.specs.Rule.{offsets_of}
use Rattle.slot_rule.specs.Assign.{bad_gap, first_bad, assigned}
use Rattle.rulings.proofs.Laws.Outcomes.{refused_not}
use Rattle.site.specs.declared.Site.{Site}
use Rattle.site.specs.Sites.{used, live, with_flow, with_schedule}
use Rattle.tree.specs.Tree.{of_link, up, depth_in, depth_of, climb, route, has}
use Rattle.reservations.specs.Reservations.{periods_judged, route_of, width_at, width_on, load, over, first_over, along, late, first_late}
use Rattle.schedule.specs.Schedule.{gaps_from, gaps_under, rank, assigned_under, base_of, base_under, crowded, first_crowded, entry_assigned, offsets_assigned, periods_assigned}
use Rattle.schedule.specs.Schedule.{scheduled}
use Rattle.judgement.specs.Judge.{with_site, reserved, judge_of}
use Rattle.limits.specs.Limits.{bad_node, bad_flow, node_limits, misplaced, flow_limits}
use Rattle.format.specs.Commands.{size_of}
use Rattle.format.specs.Bytes.{number_at}
use Rattle.format.specs.Reading.{fault_of, ended, read_from}
use Rattle.format.specs.Words.{Bytes}
use Rattle.plan_commands.specs.Commands.{node_at, flow_at, node_fault, flow_fault, later_fault, with_node, node_added, flow_added, after, decode}
use Rattle.plan_reader.specs.Read.{judge_form, read_of}
use Rattle.plan.specs.Former.{former_width, former_load, former_over, first_former_over, former_late, first_former_late, former_reserved, former_judge_of, former_form}
use Rattle.plan.specs.Former.{former_read}
use Rattle.queues.specs.Pace.{All}
use Rattle.witness.specs.Plans.{lanes}

-- What the definitions give, by computing: refused before, accepted now.
pub record LanesRead : Type 0 where
  pub full : former_read (lanes 4) ≡ refused 12 2
  pub late : former_read (lanes 3) ≡ refused 13 5
  pub fits : (t : Site) × (read_of (lanes 4) ≡ accepted t)
  pub punctual : (t : Site) × (read_of (lanes 3) ≡ accepted t)

pub lanes_read : LanesRead
unfolding last first any total largest least smallest exponent period sum limit fits base periods_of sends earlier taken free_offset turn level levels offsets_for
    offsets_of bad_gap first_bad assigned of_link live with_flow with_schedule up depth_in depth_of climb route has used gaps_from gaps_under rank assigned_under base_of
    base_under crowded first_crowded entry_assigned listed offsets_assigned periods_assigned scheduled periods_judged route_of width_at width_on sum_to load over first_over
    along late first_late or_else with_site reserved judge_of number_at node_at flow_at bad_node bad_flow node_limits misplaced flow_limits node_fault flow_fault later_fault
    size_of fault_of ended read_from with_node node_added flow_added after decode judge_form read_of former_width former_load former_over first_former_over former_late
    first_former_late former_reserved former_judge_of former_form former_read
lanes_read = record { full = refl; late = refl; fits = ((with_site (read_of (lanes 4))).1, refl); punctual = ((with_site (read_of (lanes 3))).1, refl) }

all_bytes : (xs : List ℕ) → All (λ (x : ℕ). x < 256) xs → Bytes xs
unfolding All
all_bytes [] w i = omega arith
all_bytes (x ∷ xs) w zero = w.0
all_bytes (x ∷ xs) w (suc i) = all_bytes xs w.1 i

-- So it is false that every plan that is accepted was accepted before: the reverse of `accepted_still` fails.
pub reverse_fails : ((bytes : List ℕ) → Bytes bytes → (t : Site) → read_of bytes ≡ accepted t → former_read bytes ≡ accepted t) → ⊥
unfolding All
reverse_fails claim =
    let now = lanes_read.fits in refused_not _ lanes_read.full (claim (lanes 4) (all_bytes (lanes 4) (omega arith)) now.0 now.1)
