-- The starred examples of 01, "Marked plans", with those that 02 puts in their place, as one table. A row names an input and its whole result; what it
-- claims is said by the definitions that the promises cite.
use Rattle.std.specs.Prelude.{ℕ, zero, suc, ◌+◌, ◌≡◌, List, [], ◌∷◌, ◌++◌, length, replicate}
use Prim.Native.String.{String}
use Rattle.rulings.specs.Outcome.{Outcome, Ruling, accepted, refused}
use Rattle.slot_rule.specs.Assign.{assigned}
use Rattle.site.specs.declared.Site.{Site}
use Rattle.site.specs.declared.Flow.{Flow}
use Rattle.site.specs.Sites.{empty_site}
use Rattle.lists.specs.Lists.{listed}
use Rattle.judgement.specs.Judge.{with_site}
use Rattle.plan_reader.specs.Read.{read_of}
use Rattle.schedule_writer.specs.Write.{schedule_of, schedule_bytes}
use Rattle.site_check.specs.Check.{written_if}
use Rattle.text.specs.Letters.{letters}
use Rattle.site_report.specs.Report.{report_of}
use Rattle.admission.specs.Calls.{admit_of}
use Rattle.moves.specs.Hops.{own}
use Rattle.simulation.specs.Slot.{slot_of}

pub data Row : Type 0 where
  -- The slot rule called alone on these gaps and on lists with these offsets and periods: outcome, offsets, periods.
  assigns : List ℕ → List ℕ → List ℕ → Outcome ℕ × List ℕ × List ℕ → Row
  -- A plan's bytes, and what their reading answers and the site that it gives.
  reads : List ℕ → Ruling × Site → Row
  -- A plan's bytes and those of its schedule.
  schedules : List ℕ → List ℕ → Row
  -- A plan's bytes and all that is printed of them.
  prints : List ℕ → String → Row
  -- A plan's bytes, counters and a flow, and what admitting it on the site read answers, the site that it gives and the counters then.
  admits : List ℕ → List ℕ → Flow → Ruling × Site × List ℕ → Row
  -- A plan's bytes, counters, the arrivals of each of so many slots, which have the numbers from 0 on, and what the last of them answers and leaves.
  plays : List ℕ → List ℕ → List ℕ → ℕ → Ruling × List ℕ → Row

-- What is written of the schedule of the site that a plan reads to.
abbrev schedule_for : Ruling × Site → List ℕ → Outcome ℕ × List ℕ
schedule_for (verdict, s) out = written_if s (schedule_bytes (schedule_of s)) out

-- n slots with the numbers from t on, each with these arrivals and on the counters that the one before left.
abbrev played : Site → List ℕ → ℕ → ℕ → Ruling × List ℕ → Ruling × List ℕ
played s arrivals zero t (r, cells) = (r, cells)
played s arrivals (suc n) t (r, cells) = played s arrivals n (t + 1) (slot_of own s cells arrivals t)

-- Plan P, with the low byte of link 3's capacity and that of flow 0's deadline left open.
abbrev plan_p : ℕ → ℕ → List ℕ
plan_p capacity deadline =
    1 ∷ 0 ∷ 20 ∷ 0 ∷ 4 ∷ 0 ∷ 1 ∷ 0 ∷ 20 ∷ 0 ∷ 6 ∷ 0 ∷ 1 ∷ 1 ∷ capacity ∷ 0 ∷ 3 ∷ 0 ∷ 2 ∷ 0 ∷ 3 ∷ 3 ∷ deadline ∷ 0 ∷ 255 ∷ []

-- The site that P reads to, with flows as these lists have them.
abbrev site_p : List ℕ → List ℕ → List ℕ → List ℕ → Site
site_p states entries rates deadlines = record {
  links = 3;
  parents = 0 ∷ 0 ∷ 1 ∷ replicate 60 0;
  capacities = 20 ∷ 20 ∷ 9 ∷ replicate 60 0;
  gaps = 4 ∷ 6 ∷ 3 ∷ replicate 60 0;
  offsets = 0 ∷ 1 ∷ 0 ∷ replicate 60 0;
  periods = 4 ∷ 4 ∷ 3 ∷ replicate 60 0;
  states = states;
  entries = entries;
  rates = rates;
  deadlines = deadlines;
}

-- P as it is read, and P with number 5 at node 2 with this rate and deadline.
abbrev pub read_p : Site
read_p = site_p (1 ∷ replicate 63 0) (3 ∷ replicate 63 0) (3 ∷ replicate 63 0) (7 ∷ replicate 63 0)

abbrev admitted_p : ℕ → ℕ → Site
admitted_p rate deadline =
    site_p (1 ∷ 0 ∷ 0 ∷ 0 ∷ 0 ∷ 1 ∷ replicate 58 0) (3 ∷ 0 ∷ 0 ∷ 0 ∷ 0 ∷ 2 ∷ replicate 58 0)
    (3 ∷ 0 ∷ 0 ∷ 0 ∷ 0 ∷ rate ∷ replicate 58 0) (7 ∷ 0 ∷ 0 ∷ 0 ∷ 0 ∷ deadline ∷ replicate 58 0)

-- r counters from number i on, no two equal; the last of all 576 is 4,294,967,295.
abbrev pub counters : ℕ → ℕ → List ℕ
counters r i = listed (λ k. 4294966720 + k) r i

-- What a row claims.
abbrev pub Holds : Row → Type 0
Holds (assigns gaps offsets periods result) = assigned 2 gaps offsets periods ≡ result
Holds (reads plan result) = with_site (read_of plan) ≡ result
Holds (schedules plan bytes) = schedule_for (with_site (read_of plan)) (replicate (length bytes) 0) ≡ (accepted (length bytes), bytes)
Holds (prints plan lines) = report_of plan ≡ letters lines
Holds (admits plan cells flow result) = admit_of (with_site (read_of plan)).1 cells flow ≡ result
Holds (plays plan cells arrivals n result) = played (with_site (read_of plan)).1 arrivals n 0 (accepted tt, cells) ≡ result

abbrev pub table : List Row
table =
    assigns (4 ∷ 6 ∷ 6 ∷ 6 ∷ 6 ∷ []) (21 ∷ 22 ∷ 23 ∷ 24 ∷ 25 ∷ []) (31 ∷ 32 ∷ 33 ∷ 34 ∷ 35 ∷ [])
    (accepted 3, (0 ∷ 1 ∷ 2 ∷ 4 ∷ 5 ∷ []), (3 ∷ 6 ∷ 6 ∷ 6 ∷ 6 ∷ [])) ∷
    assigns (6 ∷ 3 ∷ []) (21 ∷ 22 ∷ []) (31 ∷ 32 ∷ []) (accepted 3, (1 ∷ 0 ∷ []), (6 ∷ 3 ∷ [])) ∷
    assigns (2 ∷ 3 ∷ []) (21 ∷ 22 ∷ []) (31 ∷ 32 ∷ []) (accepted 2, (0 ∷ 1 ∷ []), (2 ∷ 2 ∷ [])) ∷
    assigns (2 ∷ 3 ∷ 1024 ∷ []) (21 ∷ 22 ∷ 23 ∷ []) (31 ∷ 32 ∷ 33 ∷ []) (refused 11 0, (21 ∷ 22 ∷ 23 ∷ []), (31 ∷ 32 ∷ 33 ∷ [])) ∷
    assigns (1 ∷ []) (21 ∷ []) (31 ∷ []) (accepted 1, (0 ∷ []), (1 ∷ [])) ∷
    -- Equation (21) of source document 001 serves these: the reduction to one integer does not find every schedule.
    assigns (4 ∷ 4 ∷ 6 ∷ 6 ∷ 6 ∷ []) (21 ∷ 22 ∷ 23 ∷ 24 ∷ 25 ∷ []) (31 ∷ 32 ∷ 33 ∷ 34 ∷ 35 ∷ [])
    (refused 11 0, (21 ∷ 22 ∷ 23 ∷ 24 ∷ 25 ∷ []), (31 ∷ 32 ∷ 33 ∷ 34 ∷ 35 ∷ [])) ∷
    schedules (plan_p 9 7) (17 ∷ 1 ∷ 0 ∷ 0 ∷ 4 ∷ 0 ∷ 17 ∷ 2 ∷ 1 ∷ 0 ∷ 4 ∷ 0 ∷ 17 ∷ 3 ∷ 0 ∷ 0 ∷ 3 ∷ 0 ∷ 255 ∷ []) ∷
    prints (plan_p 9 7)
    "link 1 parent 0 base 4 offset 0 period 4\nlink 2 parent 0 base 4 offset 1 period 4\nlink 3 parent 1 base 3 offset 0 period 3\nflow 0 node 3 rate 3 deadline 7 bound 7\naccepted links 3 flows 1\n" ∷
    reads (plan_p 9 6) (refused 13 0, empty_site) ∷
    prints (plan_p 9 6) "refused 13 0\n" ∷
    reads (plan_p 8 7) (refused 12 3, empty_site) ∷
    admits (plan_p 9 7) (counters 576 0) (record { number = 5; entry = 2; rate = 3; deadline = 6 })
    (accepted tt, admitted_p 3 6, counters 45 0 ++ (replicate 9 0 ++ counters 522 54)) ∷
    -- 02, U2: this is admissible by link 2's period, 4, and was not by its wanted gap, 6; 17 takes rate 6 and 18 deadline 3.
    admits (plan_p 9 7) (counters 576 0) (record { number = 5; entry = 2; rate = 4; deadline = 5 })
    (accepted tt, admitted_p 4 5, counters 45 0 ++ (replicate 9 0 ++ counters 522 54)) ∷
    admits (plan_p 9 7) (counters 576 0) (record { number = 5; entry = 2; rate = 6; deadline = 6 }) (refused 17 2, read_p, counters 576 0) ∷
    admits (plan_p 9 7) (counters 576 0) (record { number = 5; entry = 2; rate = 3; deadline = 3 }) (refused 18 5, read_p, counters 576 0) ∷
    plays (plan_p 9 7) (replicate 9 0 ++ counters 567 9) (3 ∷ replicate 63 0) 17
    (accepted tt, 3 ∷ 6 ∷ 0 ∷ 0 ∷ 0 ∷ 0 ∷ 0 ∷ 0 ∷ 42 ∷ counters 567 9) ∷
    []
