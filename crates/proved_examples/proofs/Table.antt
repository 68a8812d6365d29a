-- The definitions that the promises cite give every row of the table.
use mathlib.Core.Path.{refl}
use Rattle.rulings.specs.Outcome.{checked, settled, or_else}
use Rattle.lists.specs.Search.{last, first, any}
use Rattle.lists.specs.Lists.{total, largest, least, smallest, joined, listed, sum_to, same}
use Rattle.slot_rule.specs.Rule.{exponent, period, sum, limit, fits, base, periods_of, sends, earlier, taken, free_offset, turn, level, levels, offsets_for}
use Rattle.slot_rule.specs.Rule.{offsets_of}
use Rattle.slot_rule.specs.Assign.{bad_gap, first_bad, assigned}
use Rattle.tree.specs.Tree.{of_link, up, depth_in, depth_of, climb, route, has}
use Rattle.site.specs.Sites.{live, with_flow, with_schedule, used, flow_count}
use Rattle.schedule.specs.Schedule.{gaps_from, gaps_under, rank, assigned_under, base_of, base_under, crowded, first_crowded, entry_assigned, offsets_assigned, periods_assigned}
use Rattle.schedule.specs.Schedule.{scheduled, link_sends}
use Rattle.reservations.specs.Reservations.{periods_judged, route_of, width_at, width_on, load, over, first_over, unfit, first_unfit, along, late, first_late}
use Rattle.reservations.specs.Reservations.{delay_bound}
use Rattle.judgement.specs.Judge.{with_site, reserved, judge_of}
use Rattle.limits.specs.Limits.{bad_node, bad_flow, node_limits, misplaced, flow_limits}
use Rattle.format.specs.Commands.{size_of}
use Rattle.format.specs.Bytes.{number_at, bytes_of}
use Rattle.format.specs.Reading.{fault_of, ended, read_from}
use Rattle.plan_commands.specs.Commands.{node_at, flow_at, node_fault, flow_fault, later_fault, with_node, node_added, flow_added, after, decode}
use Rattle.plan_reader.specs.Read.{judge_form, read_of}
use Rattle.schedule_writer.specs.Write.{link_bytes, schedule_of, schedule_bytes}
use Rattle.slices.specs.Written.{written, handed}
use Rattle.site_check.specs.Check.{shaped, node_of, flow_of, ill_node, ill_flow, first_ill_node, first_ill_flow, formed, accepts, stands, passes_of, call_fault}
use Rattle.counters.specs.Blocks.{block, with_block, cells_of, with_cells, zeros}
use Rattle.flow_checks.specs.Flows.{flow_ruling}
use Rattle.admission.specs.Calls.{change, admit_ruling, admit_of}
use Rattle.queues.specs.Cells.{moved, arrived, delivering, passed, step}
use Rattle.queues.specs.Pace.{All}
use Rattle.moves.specs.Hops.{hops_along, hops_of}
use Rattle.moves.specs.Moves.{recounted, cells_after}
use Rattle.slot_checks.specs.Checks.{overflows, first_overflow, unexpected, first_unexpected, arrivals_ruling}
use Rattle.simulation.specs.Slot.{slot_ruling, slot_of}
use Rattle.text.specs.Decimal.{digits_by, decimal}
use Rattle.text.specs.Put.{text_of}
use Rattle.site_report.specs.Report.{link_line, flow_line, flow_line_if, counts_line, site_lines, report_lines, report_of}
use Rattle.report_lines.specs.Lines.{refusal}
use Rattle.proved_examples.specs.Table.{Holds, table}

pub table_holds : All Holds table
unfolding All moved arrived delivering passed step hops_along hops_of cells_of link_sends recounted overflows first_overflow unexpected first_unexpected arrivals_ruling
    slot_ruling cells_after slot_of checked settled or_else block with_block with_cells zeros unfit first_unfit call_fault change flow_ruling admit_ruling admit_of last first
    any total largest least smallest exponent period sum limit fits base periods_of sends earlier taken free_offset turn level levels offsets_for offsets_of bad_gap
    first_bad assigned of_link live with_flow with_schedule up depth_in depth_of climb route has used gaps_from gaps_under rank assigned_under base_of base_under crowded
    first_crowded entry_assigned listed offsets_assigned periods_assigned scheduled periods_judged route_of width_at width_on sum_to load over first_over along late first_late
    with_site reserved judge_of number_at bytes_of node_at flow_at bad_node bad_flow node_limits misplaced flow_limits node_fault flow_fault later_fault size_of fault_of ended
    read_from with_node node_added flow_added after decode judge_form read_of link_bytes joined schedule_of schedule_bytes written handed shaped node_of flow_of ill_node ill_flow
    first_ill_node first_ill_flow formed same accepts stands passes_of delay_bound digits_by decimal text_of link_line flow_line flow_line_if flow_count counts_line refusal
    site_lines report_lines report_of
table_holds = (refl, (refl, (refl, (refl, (refl, (refl, (refl, (refl, (refl, (refl, (refl, (refl, (refl, (refl, (refl, (refl, tt))))))))))))))))
