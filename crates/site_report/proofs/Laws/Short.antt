-- What is printed of a plan has at most 8,192 bytes: there are at most 63 links and 64 flows.
use Prim.Native.Nat.{ℕ, ◌≤◌, ◌<◌}
use mathlib.Core.Path.{◌≡◌, refl}
use mathlib.Core.Bool.{Bool, true, false, cond}
use mathlib.Core.List.{List, [], ◌++◌}
use lib.ListN.{length, get_or}
use native.Mathlib.Omega.{arith}
use Rattle.rulings.specs.Outcome.{Outcome, accepted, refused}
use Rattle.lists.specs.Lists.{joined}
use Rattle.slot_rule.proofs.Laws.Bases.{smallest_within, base_fits}
use Rattle.site.specs.declared.Site.{Site}
use Rattle.site.specs.Sites.{used, live, flow_count}
use Rattle.reservations.specs.Reservations.{delay_bound}
use Rattle.schedule.specs.Schedule.{gaps_under, rank, base_under}
use Rattle.schedule.proofs.Laws.Schedule.{base_under_lem}
use Rattle.schedule.proofs.Laws.Slots.{placed}
use Rattle.format.specs.Words.{Bytes}
use Rattle.site_check.specs.Check.{node_of}
use Rattle.site_check.specs.Words.{Sound}
use Rattle.site_check.proofs.Laws.{passes_sound}
use Rattle.site_check.proofs.Laws.Flows.{sound_timed}
use Rattle.plan_reader.specs.Read.{read_of}
use Rattle.plan.proofs.Laws.Near.{read_near}
use Rattle.plan.proofs.Laws.SiteSchedules.{site_listed}
use Rattle.schedule_check.specs.Words.{SlotsWithin}
use Rattle.schedule_writer.specs.Write.{schedule_of}
use Rattle.text.specs.Letters.{letters}
use Rattle.text.specs.Put.{text_of}
use Rattle.text.proofs.Laws.Put.{text_append}
use Rattle.site_report.specs.Report.{link_text, flow_text, link_line, flow_line, flow_line_if, counts_line, site_lines, report_lines, report_of}
use Rattle.report_lines.proofs.Laws.Short.{Figure, field, ended, slots_short, lines_short, told_short}
use Rattle.plan.proofs.Laws.Numbers.{plan_number, read_sound}
use Rattle.site.proofs.Laws.Flows.{flows_few}
use Rattle.report_lines.proofs.Laws.Figures.{few, node_at, parent_figure, entry_figure, rate_figure, deadline_figure}

link_short : (node parent base offset period : ℕ) → Figure node → Figure parent → Figure base → Figure offset → Figure period
    → length (text_of (link_text node parent base offset period)) ≤ 61
link_short node parent base offset period a b c d e =
    field (letters "link ") node _ _ (omega arith) a (field (letters " parent ") parent _ _ (omega arith) b
    (field (letters " base ") base _ _ (omega arith) c (slots_short offset period d e)))

flow_short : (number entry rate deadline bound : ℕ) → Figure number → Figure entry → Figure rate → Figure deadline → Figure bound
    → length (text_of (flow_text number entry rate deadline bound)) ≤ 60
flow_short number entry rate deadline bound a b c d e =
    field (letters "flow ") number _ _ (omega arith) a (field (letters " node ") entry _ _ (omega arith) b
    (field (letters " rate ") rate _ _ (omega arith) c (field (letters " deadline ") deadline _ _ (omega arith) d
    (field (letters " bound ") bound _ _ (omega arith) e ended))))

-- Its lines as they are printed.
module _ (s : Site) (w : Sound s) where
  -- A base is at most the gap of each child.
  base_figure : (i : ℕ) → i < used s.links → Figure (base_under s (get_or s.parents i 0))
  unfolding node_of used
  base_figure i l =
      let p = get_or s.parents i 0 in
      let t = sound_timed s w in
      let x = placed s t p i (omega arith) refl in
      let some : 1 ≤ length (gaps_under s p) = omega (arith, x.place) in
      record {
        is = omega (
          arith,
          base_under_lem s p t.gapped some,
          (base_fits 2 (omega arith) (gaps_under s p) x.base_some).1,
          smallest_within (gaps_under s p) (rank s p i) x.place,
          x.gap,
          (node_at s w i l).within.gap_most,
        );
      }

  slots_at : (i : ℕ) → i < used s.links → SlotsWithin (get_or s.offsets i 0) (get_or s.periods i 0)
  unfolding used schedule_of
  slots_at i l = (site_listed s ((passes_sound s).1 w)).slots i (omega arith)

  -- G is at most the deadline.
  bound_figure : (n : ℕ) → n < 64 → live s n ≡ true → Figure (delay_bound s n)
  bound_figure n l e = record { is = omega (arith, w.punctual.within n l e, (deadline_figure s w n e).is) }

  link_line_lem : (i : ℕ) → i < used s.links → length (text_of (link_line s i)) ≤ 61
  unfolding link_line used
  link_line_lem i l =
      link_short _ _ _ _ _ (record { is = omega arith }) (parent_figure s w i l) (base_figure i l)
      (record { is = omega (arith, (slots_at i l).offset_below, (slots_at i l).period_most) }) (record { is = omega (arith, (slots_at i l).period_most) })

  flow_line_lem : (n : ℕ) → n < 64 → length (text_of (flow_line_if s n)) ≤ 60
  unfolding flow_line_if flow_line text_of
  flow_line_lem n l = go (live s n) refl
    where
      go : (t : Bool) → live s n ≡ t → length (text_of (cond t (flow_line s n) [])) ≤ 60
      go true e = flow_short _ _ _ _ _ (record { is = omega arith }) (entry_figure s w n e) (rate_figure s w n e) (deadline_figure s w n e) (bound_figure n l e)
      go false e = omega arith

  counts_line_lem : length (text_of (counts_line s)) ≤ 33
  unfolding counts_line
  counts_line_lem =
      field (letters "accepted links ") s.links _ _ (omega arith) (record { is = omega (arith, few s w) })
      (field (letters " flows ") (flow_count s) _ _ (omega arith) (record { is = omega (arith, flows_few s) }) ended)

  pub site_short : length (text_of (site_lines s)) ≤ 8192
  unfolding site_lines used
  site_short =
      let links = lines_short (link_line s) 61 (used s.links) 0 (λ i l. link_line_lem i (omega arith)) in
      let flows = lines_short (flow_line_if s) 60 64 0 (λ n l. flow_line_lem n (omega arith)) in
      omega (
        arith,
        text_append (joined (link_line s) (used s.links) 0) (joined (flow_line_if s) 64 0 ++ counts_line s),
        text_append (joined (flow_line_if s) 64 0) (counts_line s),
        links,
        flows,
        counts_line_lem,
      )

module _ (bytes : List ℕ) (small : Bytes bytes) where
  pub report_short : length (report_of bytes) ≤ 8192
  unfolding report_of report_lines
  report_short = go (read_of bytes) refl
    where
      go : (o : Outcome Site) → read_of bytes ≡ o → length (text_of (report_lines o)) ≤ 8192
      go (accepted s) e = site_short s (read_sound bytes small s e)
      go (refused number place) e = told_short (read_of bytes) number place e (read_near bytes small) (omega (arith, plan_number bytes small number place e))
