-- The contracts themselves, as the checker reads them, give the equations that claims cite, with all memory lent: of the operations of 01 and 02, of both
-- checks 14, of the judgement, of `loads` and G, of the reading that fills in loads, of what programs print, and of a rehearsal. Those of the calls that
-- lists are made of are the very steps of a run. `a` holds what is handed in, in the order of the parameters, and `x` what is lent as the call leaves it. A
-- contract that says less gives its law no more. The laws of the library's exported functions stand in `slotplan_lib`.
use mathlib.Core.Path.{◌≡◌, refl}
use lib.ListN.{take}
use Rattle.rulings.specs.Outcome.{outcome, refused}
use Rattle.std.specs.Result.{MatchResult}
use Rattle.judgement.specs.Judge.{with_site, judge_of}
use Rattle.plan_reader.specs.Read.{read_of}
use Rattle.slices.specs.Written.{written}
use Rattle.site_check.specs.Check.{passes_of, written_if}
use Rattle.plan_writer.specs.Write.{plan_bytes}
use Rattle.schedule_check.specs.Schedules.{of_lists}
use Rattle.schedule_check.specs.Check.{schedule_passes}
use Rattle.schedule_reader.specs.Read.{with_links, schedule_read}
use Rattle.schedule_writer.specs.Write.{schedule_of, schedule_bytes, schedule_written}
use Rattle.sender.specs.Sender.{sender_of}
use Rattle.moves.specs.Hops.{own}
use Rattle.guarantee.specs.Runs.{slot, admit, release, start, Promise}
use Rattle.text.specs.Page.{held, Adds}
use Rattle.line_words.specs.Words.{FoundWord, operand_at}
use Rattle.line_words.proofs.next_word.Reads as next-words
use Rattle.line_words.proofs.next_operand.Reads as operands
use Rattle.site_report.specs.Report.{report_of, site_lines}
use Rattle.site_report.proofs.put_site.Reads as printed-sites
use Rattle.plan_listing.proofs.put_plan.Reads as typed-sites
use Rattle.line_answers.proofs.put_answer.Reads as questions
use Rattle.schedule_report.specs.Report.{schedule_report_of}
use Rattle.plan_listing.specs.Listing.{listing_of, site_typed}
use Rattle.typed_plan.specs.Assemble.{assembled, assembled_of}
use Rattle.call_text.specs.Lines.{asked_of}
use Rattle.line_answers.specs.Steps.{call_of, question_text, answered_to, CarriedAs}
use Rattle.rehearsal.specs.Desk.{AllTaken}
use Rattle.site_report.proofs.report.Reads as reports
use Rattle.schedule_report.proofs.report_schedule.Reads as schedule-reports
use Rattle.plan_listing.proofs.list_plan.Reads as listings
use Rattle.typed_plan.proofs.assemble.Reads as assemblies
use Rattle.call_text.proofs.read_line.Reads as lines
use Rattle.line_answers.proofs.make_call.Reads as made
use Rattle.line_answers.proofs.answer_line.Reads as answers
use Rattle.rehearsal.proofs.take_up.Reads as taken
use Rattle.pinwheel.proofs.assign.Reads as slot-rules
use Rattle.bounds.proofs.delay_bound.Reads as delays
use Rattle.judgement.specs.Inner.{SettledAs}
use Rattle.judgement.proofs.judge.Reads as judgements
use Rattle.judgement.proofs.settle.Reads as settlements
use Rattle.site_check.proofs.passes.Reads as checks
use Rattle.schedule_check.proofs.Schedule.passes.Reads as schedule-checks
use Rattle.plan_reader.proofs.read_with.Reads as readings
use Rattle.plan_reader.proofs.read_site.Reads as sites
use Rattle.plan_reader.proofs.read_plan.Reads as plans
use Rattle.plan_writer.proofs.write_plan.Reads as written-plans
use Rattle.schedule_reader.proofs.read_schedule.Reads as read-schedules
use Rattle.schedule_writer.proofs.write_schedule.Reads as site-schedules
use Rattle.schedule_writer.proofs.write_schedule_of.Reads as value-schedules
use Rattle.schedule_writer.proofs.write_lists.Reads as listed-schedules
use Rattle.admission.proofs.admit.Reads as admissions
use Rattle.admission.proofs.release.Reads as departures
use Rattle.sender.proofs.sender.Reads as lookups
use Rattle.simulation.proofs.start.Reads as begun
use Rattle.simulation.proofs.slot.Reads as moved
use Rattle.slot_rule.specs.Assign.{assigned}
use Rattle.reservations.specs.Reservations.{loads_of, delay_bound}
use Rattle.link_loads.proofs.loads.Reads as loads
use Rattle.site.specs.declared.Site.{Site}
use Rattle.site.specs.Sites.{live, with_states}
use Rattle.flow_checks.specs.Flows.{number_ruling}
use Rattle.host_answers.specs.Answers.{answer_of}
use Rattle.report_lines.specs.Lines.{refusal, refusal_line}
use Rattle.site.proofs.live_in.Reads as lent-states
use Rattle.flow_checks.proofs.judge_number.Reads as numbers
use Rattle.host_answers.proofs.refusal.Reads as told-refusals
use Rattle.judgement.proofs.refusal.Reads as site-refusals
use Rattle.report_lines.proofs.put_refusal.Reads as put-refusals
use Rattle.report_lines.proofs.put_refusal_line.Reads as put-lines
use Rattle.report_lines.proofs.deliver.Reads as deliveries
use Rattle.testlib_text.specs.Lines.{change_from, change_told}
use Rattle.testlib_text.proofs.Numbers.next_change.Reads as changes

pub slot_ruling_lem : (κs : _) (a : _) (r : _) (x : _) → slot-rules.Post κs a r x
    → (outcome r, x.1.0.now, x.1.1.0.now) ≡ assigned 2 a.0.now a.1.0.now a.1.1.0.now
slot_ruling_lem κs a r x p = p

pub judging : (κs : _) (a : _) (r : _) (x : _) → judgements.Post κs a r x → (outcome r.verdict, r.site) ≡ with_site (judge_of a.0)
judging κs a r x p = p

-- What a reading and check 14 judge a site by.
pub settling : (κs : _) (a : _) (r : _) (x : _) → settlements.Post κs a r x → SettledAs a.0.now (outcome r) x.0.now a.1.0.now x.1.0.now
settling κs a r x p = p

pub site_passing : (κs : _) (a : _) (r : _) (x : _) → checks.Post κs a r x → r ≡ passes_of a.0.now
site_passing κs a r x p = p

pub schedule_passing : (κs : _) (a : _) (r : _) (x : _) → schedule-checks.Post κs a r x → r ≡ schedule_passes a.0.now
schedule_passing κs a r x p = p

pub delay_told : (κs : _) (a : _) (r : _) (x : _) → delays.Post κs a r x → r ≡ delay_bound a.0.now a.1.0
delay_told κs a r x p = p

pub plan_reading : (κs : _) (a : _) (r : _) (x : _) → plans.Post κs a r x → (outcome r.verdict, r.site) ≡ with_site (read_of a.0.now)
plan_reading κs a r x p = p

pub site_reading : (κs : _) (a : _) (r : _) (x : _) → sites.Post κs a r x → outcome r ≡ read_of a.0.now
site_reading κs a r x p = p

pub loads_reading : (κs : _) (a : _) (r : _) (x : _) → readings.Post κs a r x
    → (outcome r ≡ read_of a.0.now) × MatchResult r (λ s. x.1.0.now ≡ loads_of s) (λ e. x.1.0.now ≡ a.1.0.now)
loads_reading κs a r x p = (p.0, p.1)

pub plan_writing : (κs : _) (a : _) (r : _) (x : _) → written-plans.Post κs a r x
    → (outcome r, x.1.0.now) ≡ written_if a.0 (plan_bytes a.0) a.1.0.now
plan_writing κs a r x p = p

pub schedule_reading : (κs : _) (a : _) (r : _) (x : _) → read-schedules.Post κs a r x → (outcome r.verdict, r.schedule) ≡ with_links (schedule_read a.0.now)
schedule_reading κs a r x p = p

pub schedule_writing : (κs : _) (a : _) (r : _) (x : _) → site-schedules.Post κs a r x
    → (outcome r, x.1.0.now) ≡ written_if a.0 (schedule_bytes (schedule_of a.0)) a.1.0.now
schedule_writing κs a r x p = p

pub value_writing : (κs : _) (a : _) (r : _) (x : _) → value-schedules.Post κs a r x → (outcome r, x.1.0.now) ≡ schedule_written a.0 a.1.0.now
value_writing κs a r x p = p

pub lists_writing : (κs : _) (a : _) (r : _) (x : _) → listed-schedules.Post κs a r x
    → (outcome r, x.1.1.1.0.now) ≡ schedule_written (of_lists a.0 a.1.0.now a.1.1.0.now) a.1.1.1.0.now
lists_writing κs a r x p = p

pub admitting : (κs : _) (a : _) (r : _) (x : _) → admissions.Post κs a r x
    → Promise own (admit a.1.1.0) (record { site = a.0; counters = a.1.0.now }) (outcome r.verdict) (record { site = r.site; counters = x.1.0.now })
unfolding Promise
admitting κs a r x p = p

pub releasing : (κs : _) (a : _) (r : _) (x : _) → departures.Post κs a r x
    → Promise own (release a.1.1.0) (record { site = a.0; counters = a.1.0.now }) (outcome r.verdict) (record { site = r.site; counters = x.1.0.now })
unfolding Promise
releasing κs a r x p = p

pub looking_up : (κs : _) (a : _) (r : _) (x : _) → lookups.Post κs a r x → outcome r ≡ sender_of a.0 a.1.0 a.1.1.0
looking_up κs a r x p = p

pub starting : (κs : _) (a : _) (r : _) (x : _) → begun.Post κs a r x
    → Promise own start (record { site = a.0; counters = a.1.0.now }) (outcome r) (record { site = a.0; counters = x.1.0.now })
unfolding Promise
starting κs a r x p = (p, refl)

pub one_slot : (κs : _) (a : _) (r : _) (x : _) → moved.Post κs a r x
    → Promise own (slot a.1.1.1.0 a.1.1.0.now) (record { site = a.0; counters = a.1.0.now }) (outcome r) (record { site = a.0; counters = x.1.0.now })
unfolding Promise
one_slot κs a r x p = (p, refl)

pub loads_contract : (κs : _) (a : _) (r : _) (x : _) → loads.Post κs a r x → r ≡ loads_of a.0.now
loads_contract κs a r x p = p

-- What programs print of plan bytes and of schedule files, and what is typed.
pub reporting : (κs : _) (a : _) (r : _) (x : _) → reports.Post κs a r x → (outcome r, x.1.0.now) ≡ written (report_of a.0.now) a.1.0.now
reporting κs a r x p = p

pub schedule_reporting : (κs : _) (a : _) (r : _) (x : _) → schedule-reports.Post κs a r x
    → (outcome r, x.1.0.now) ≡ written (schedule_report_of a.0.now) a.1.0.now
schedule_reporting κs a r x p = p

pub listing_plans : (κs : _) (a : _) (r : _) (x : _) → listings.Post κs a r x → (outcome r, x.1.0.now) ≡ written (listing_of a.0.now) a.1.0.now
listing_plans κs a r x p = p

pub assembling_plans : (κs : _) (a : _) (r : _) (x : _) → assemblies.Post κs a r x → (assembled r, x.1.0.now) ≡ assembled_of a.0.now a.1.0.now
assembling_plans κs a r x p = p

-- A line of a rehearsal: what it asks for; the call that it makes, which is a step of a run; and all that it comes to.
pub line_reading : (κs : _) (a : _) (r : _) (x : _) → lines.Post κs a r x → r ≡ asked_of a.0.now
line_reading κs a r x p = p

pub call_making : (κs : _) (a : _) (r : _) (x : _) → made.Post κs a r x
    → Promise own (call_of a.0 a.1.0.now) (record { site = a.1.1.0; counters = a.1.1.1.0.now }) (outcome r.verdict)
    (record { site = r.site; counters = x.1.1.1.0.now })
call_making κs a r x p = p

pub line_answering : (κs : _) (a : _) (r : _) (x : _) → answers.Post κs a r x
    → (x.1.1.1.0.now.space.ghost_name ≡ a.1.1.1.0.now.space.ghost_name)
    × CarriedAs (answered_to (asked_of a.0.now) (record { site = a.1.0; counters = a.1.1.0.now })) (record { site = r; counters = x.1.1.0.now })
    (held a.1.1.1.0.now) (held x.1.1.1.0.now)
line_answering κs a r x p = (p.0, p.1)

-- What is typed, as far as it is taken up: the whole contract.
pub taking_up : (κs : _) (a : _) (r : _) (x : _) → taken.Post κs a r x
    → AllTaken a.0.now a.1.1.0.now a.1.1.1.1.0.now (record { site = a.1.0.site; counters = a.1.1.1.0.now }) a.1.0.kept r.taken
    (record { site = r.after.site; counters = x.1.1.1.0.now }) x.1.1.0.now r.after.kept (r.filled, x.1.1.1.1.0.now)
taking_up κs a r x p = p

-- What stands in a text: the answer to a question, a site's lines as printed and as typed; where the next word stands, and the operand that it is.
pub question_answering : (κs : _) (a : _) (r : _) (x : _) → questions.Post κs a r x → Adds a.0.now x.0.now (question_text a.1.0 a.1.1.0.now a.1.1.1.0.now)
question_answering κs a r x p = p

pub site_printing : (κs : _) (a : _) (r : _) (x : _) → printed-sites.Post κs a r x → Adds a.0.now x.0.now (site_lines a.1.0.now)
site_printing κs a r x p = p

pub site_typing : (κs : _) (a : _) (r : _) (x : _) → typed-sites.Post κs a r x → Adds a.0.now x.0.now (site_typed a.1.0.now)
site_typing κs a r x p = p

pub word_finding : (κs : _) (a : _) (r : _) (x : _) → next-words.Post κs a r x → FoundWord a.0.now a.1.0 r
word_finding κs a r x p = p

pub operand_reading : (κs : _) (a : _) (r : _) (x : _) → operands.Post κs a r x → r ≡ operand_at a.0.now a.1.0 a.1.1.0
operand_reading κs a r x p = p.2

-- What takes more than its callers hand on: states of any length, any number of a refusal, any size of a text.
pub live_told : (κs : _) (a : _) (r : _) (x : _) → lent-states.Post κs a r x → (s : Site) → r ≡ live (with_states s a.0.now) a.1.0
live_told κs a r x p = p

pub number_judged : (κs : _) (a : _) (r : _) (x : _) → numbers.Post κs a r x → (s : Site) → outcome r ≡ number_ruling (with_states s a.0.now) a.1.0
number_judged κs a r x p = p

pub refusal_answered : (κs : _) (a : _) (r : _) (x : _) → told-refusals.Post κs a r x → r ≡ answer_of (refused a.0 a.1.0)
refusal_answered κs a r x p = p

pub refusal_told : (κs : _) (a : _) (r : _) (x : _) → site-refusals.Post κs a r x → (refused r.number r.place, r.site) ≡ with_site (refused a.0 a.1.0)
refusal_told κs a r x p = p

pub refusal_put : (κs : _) (a : _) (r : _) (x : _) → put-refusals.Post κs a r x → Adds a.0.now x.0.now (refusal a.1.0 a.1.1.0)
refusal_put κs a r x p = p

pub refusal_line_put : (κs : _) (a : _) (r : _) (x : _) → put-lines.Post κs a r x → Adds a.0.now x.0.now (refusal_line a.1.0 a.1.1.0)
refusal_line_put κs a r x p = p

pub text_delivered : (κs : _) (a : _) (r : _) (x : _) → deliveries.Post κs a r x
    → (outcome r, x.1.1.0.now) ≡ written (take a.1.0 a.0.now) a.1.1.0.now
text_delivered κs a r x p = p

-- What a line of a test has of a change, also of one that breaks off: no caller reads that.
pub change_reading : (κs : _) (a : _) (r : _) (x : _) → changes.Post κs a r x
    → (x.0.now.line.now ≡ a.0.now.line.now) × (x.0.now.at ≡ (change_from a.0.now.line.now a.0.now.at).next)
    × (r ≡ change_told (change_from a.0.now.line.now a.0.now.at))
change_reading κs a r x p = (p.0, p.1.0, p.1.1)
