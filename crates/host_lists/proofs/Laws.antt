-- What is proved of schedules as lists: what was written reads back to the same lists, and what was read is written again to equal bytes. The module named
-- here holds the lemmas.
pub mod Ends
use Prim.Native.Nat.{ℕ, ◌≤◌}
use mathlib.Core.Path.{◌≡◌, refl, sym, ◌∙◌, ap}
use mathlib.Core.List.{List, ◌++◌}
use lib.ListN.{length, take, drop}
use Rattle.rulings.specs.Outcome.{Outcome, accepted, refused}
use Rattle.format.specs.Words.{Bytes}
use Rattle.schedule_check.specs.declared.Schedule.{Schedule}
use Rattle.schedule_check.specs.Schedules.{of_lists}
use Rattle.schedule_reader.specs.Read.{schedule_read}
use Rattle.schedule_writer.specs.Write.{schedule_written}
use Rattle.plan.proofs.Laws.{schedule_made, schedule_again}
use Rattle.plan.proofs.Laws.Schedules.{schedule_form}
use Rattle.host_answers.specs.Calls.{by_reading, of_length}
use Rattle.host_answers.proofs.Laws.Calls.{unlike, by_yes, of_length_lem, of_list}
use Rattle.host_lists.specs.Lists.{links_of, schedule_read_from, schedule_written_from}

-- 02, U1. What a host's schedule was written to reads back to the same number of links and the same lists, whatever the lists that are filled held before, and what
-- stood behind the file stands there still.
pub schedule_file_reads : (links : ℕ) (offsets periods out : List ℕ) (size : ℕ) (new : List ℕ) → schedule_written_from links offsets periods out ≡ (accepted size, new)
    → (starts lengths : List ℕ) → length starts ≡ 63 → length lengths ≡ 63
    → (schedule_read_from (take size new) starts lengths ≡ (accepted links, offsets, periods)) × (drop size new ≡ drop size out)
unfolding schedule_written_from schedule_read_from
schedule_file_reads links offsets periods out size new e starts lengths long as_long =
    let a = of_list offsets 63 _ _ _ (λ q. unlike (ap (λ (r : Outcome ℕ × List ℕ). r.0) q)) e in
    let b = of_list periods 63 _ _ _ (λ q. unlike (ap (λ (r : Outcome ℕ × List ℕ). r.0) q)) a.1 in
    let w = schedule_made (of_lists links offsets periods) out new size b.1 in (
      sym (by_yes (schedule_read (take size new)) links_of _ _ w.0
          ∙ of_length_lem lengths 63 _ _ as_long ∙ of_length_lem starts 63 _ _ long),
      w.1,
    )

-- A file that was read is written again from the lists that it filled, to equal bytes.
pub schedule_file_again : (file offsets periods : List ℕ) → Bytes file → (links : ℕ) (starts lengths : List ℕ)
    → schedule_read_from file offsets periods ≡ (accepted links, starts, lengths) → (out : List ℕ) → length file ≤ length out
    → schedule_written_from links starts lengths out ≡ (accepted (length file), file ++ drop (length file) out)
unfolding schedule_read_from schedule_written_from by_reading
schedule_file_again file offsets periods small links starts lengths e out room =
    let a = of_list offsets 63 _ _ _ (λ q. unlike (ap (λ (r : Outcome ℕ × List ℕ × List ℕ). r.0) q)) e in
    let b = of_list periods 63 _ _ _ (λ q. unlike (ap (λ (r : Outcome ℕ × List ℕ × List ℕ). r.0) q)) a.1 in
    go (schedule_read file) refl b.1
  where
    go : (o : Outcome Schedule) → schedule_read file ≡ o
        → by_reading o (λ number place. (refused number place, offsets, periods)) links_of ≡ (accepted links, starts, lengths)
        → of_length starts 63 (refused 1 0, out) (of_length lengths 63 (refused 1 0, out) (schedule_written (of_lists links starts lengths) out))
        ≡ (accepted (length file), file ++ drop (length file) out)
    go (accepted s) q f =
        let first : ◌≡◌ {A = Outcome ℕ} (accepted s.links) (accepted links) = ap (λ (r : Outcome ℕ × List ℕ × List ℕ). r.0) f in
        let m : s.links ≡ links = cc in
        let os : s.offsets ≡ starts = ap (λ (r : Outcome ℕ × List ℕ × List ℕ). r.1) f in
        let ps : s.periods ≡ lengths = ap (λ (r : Outcome ℕ × List ℕ × List ℕ). r.2) f in
        let w = (schedule_form file small s q).listed in
        rw (← m, ← os, ← ps)
        (sym (of_length_lem s.periods 63 _ _ w.periods_long ∙ of_length_lem s.offsets 63 _ _ w.offsets_long) ∙ schedule_again file s small q out room)
    go (refused number place) q f = absurd (unlike (ap (λ (r : Outcome ℕ × List ℕ × List ℕ). r.0) f))
