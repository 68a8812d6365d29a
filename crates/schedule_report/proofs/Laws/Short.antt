-- What is printed of a schedule has at most 8,192 bytes.
use Prim.Native.Nat.{ℕ, ◌+◌, ◌≤◌, ◌<◌}
use mathlib.Core.Path.{◌≡◌, refl}
use mathlib.Core.List.{List, [], ◌∷◌}
use lib.ListN.{length}
use native.Mathlib.Omega.{arith}
use Rattle.rulings.specs.Outcome.{Outcome, accepted, refused}
use Rattle.lists.specs.Lists.{joined}
use Rattle.site.specs.Sites.{used}
use Rattle.schedule_check.specs.declared.Schedule.{Schedule}
use Rattle.schedule_reader.specs.Read.{schedule_read}
use Rattle.format.specs.Words.{Bytes}
use Rattle.plan.proofs.Laws.Near.{schedule_near}
use Rattle.plan.proofs.Laws.Schedules.{schedule_form}
use Rattle.schedule_check.specs.Words.{Listed}
use Rattle.text.specs.Letters.{letters}
use Rattle.text.specs.Decimal.{decimal}
use Rattle.text.specs.Put.{text_of}
use Rattle.text.proofs.Laws.Put.{text_append}
use Rattle.schedule_report.specs.Report.{slots_line, schedule_text, schedule_lines, schedule_report_of}
use Rattle.report_lines.proofs.Laws.Short.{field, ended, slots_short, lines_short, told_short}
use Rattle.plan.proofs.Laws.Numbers.{schedule_number}

slots_line_lem : (s : Schedule) → Listed s → (i : ℕ) → i < used s.links → length (text_of (slots_line s i)) ≤ 37
unfolding slots_line used
slots_line_lem s w i l =
    let x = w.slots i (omega arith) in
    field (letters "link ") (i + 1) _ _ (omega arith) (record { is = omega arith })
    (slots_short _ _ (record { is = omega (arith, x.offset_below, x.period_most) }) (record { is = omega (arith, x.period_most) }))

schedule_whole : (s : Schedule) → Listed s → length (text_of (schedule_text s)) ≤ 8192
unfolding schedule_text used
schedule_whole s w =
    let links = lines_short (slots_line s) 37 (used s.links) 0 (λ i l. slots_line_lem s w i (omega arith)) in
    let last : length (text_of (letters "accepted links " ∷ decimal s.links ∷ letters "\n" ∷ [])) ≤ 21
    = field (letters "accepted links ") s.links _ _ (omega arith) (record { is = omega (arith, w.few) }) ended in
    omega (arith, text_append (joined (slots_line s) (used s.links) 0) (letters "accepted links " ∷ decimal s.links ∷ letters "\n" ∷ []), links, last)

module _ (bytes : List ℕ) (small : Bytes bytes) where
  pub schedule_report_short : length (schedule_report_of bytes) ≤ 8192
  unfolding schedule_report_of schedule_lines
  schedule_report_short = go (schedule_read bytes) refl
    where
      go : (o : Outcome Schedule) → schedule_read bytes ≡ o → length (text_of (schedule_lines o)) ≤ 8192
      go (accepted s) e = schedule_whole s (schedule_form bytes small s e).listed
      go (refused number place) e =
          told_short (schedule_read bytes) number place e (schedule_near bytes small) (schedule_number bytes small number place e)
