-- The largest number that refuses a plan and a schedule file, and what a reading accepts.
use Prim.Native.Nat.{ℕ, ◌≤◌}
use mathlib.Core.Path.{◌≡◌}
use mathlib.Core.List.{List}
use mathlib.Core.Logic.{inl, inr}
use native.Mathlib.Omega.{arith}
use Rattle.rulings.specs.Outcome.{accepted, refused}
use Rattle.rulings.proofs.Laws.Outcomes.{refused_not}
use Rattle.lists.proofs.Laws.Search.{lt_or_le}
use Rattle.site.specs.declared.Site.{Site}
use Rattle.judgement.specs.Judge.{judge_of}
use Rattle.judgement.proofs.Laws.Judge.{Way, crowds, fills, delays, passes, judge_way}
use Rattle.schedule_reader.specs.Read.{schedule_read}
use Rattle.format.specs.Words.{Bytes}
use Rattle.site_check.specs.Words.{Sound}
use Rattle.site_check.proofs.Laws.{passes_sound}
use Rattle.plan_reader.specs.Read.{read_of}
use Rattle.plan.specs.Words.{no_end, command, more}
use Rattle.plan.specs.ScheduleWords.{ScheduleFails}
use Rattle.plan.proofs.Laws.Faults.{first_among, first_of_none}
use Rattle.plan.proofs.Laws.Acceptance.{read_judged}
use Rattle.plan.proofs.Laws.{passes_when}
use Rattle.plan.proofs.Laws.Schedules.{schedule_why}

-- What the judgement after END refuses has a number of at most 13.
judge_most : (s : Site) (number place : ℕ) → judge_of s ≡ refused number place → number ≤ 13
judge_most s number place e = go (judge_way s)
  where
    go : Way s → number ≤ 13
    go (crowds a q) = let n : number ≡ 11 = cc in omega arith
    go (fills a b q) = let n : number ≡ 12 = cc in omega arith
    go (delays a b c q) = let n : number ≡ 13 = cc in omega arith
    go (passes a b c q) = absurd (refused_not _ e q)

pub plan_number : (bytes : List ℕ) → Bytes bytes → (number place : ℕ) → read_of bytes ≡ refused number place → number ≤ 13
plan_number bytes small number place e = elim (lt_or_le 10 number) [
  | inl l ↦ let w = (read_judged bytes small number place l).0 e in judge_most w.0 number place w.2
  | inr l ↦ omega arith
]

pub schedule_number : (bytes : List ℕ) → Bytes bytes → (number place : ℕ) → schedule_read bytes ≡ refused number place → number ≤ 22
schedule_number bytes small number place e = go ((schedule_why bytes small number place).0 e)
  where
    go : ScheduleFails bytes number place → number ≤ 22
    go (no_end s w e n) = omega arith
    go (command s w l t f) =
        first_among (λ (n : ℕ). n ≤ 22) 3 number _ _ (omega arith) (first_among (λ (n : ℕ). n ≤ 22) 2 number _ _ (omega arith)
        (first_among (λ (n : ℕ). n ≤ 22) 21 number _ _ (omega arith) (first_among (λ (n : ℕ). n ≤ 22) 22 number _ _ (omega arith)
        (λ f. absurd (first_of_none number f))))) f
    go (more s at w t e l n) = omega arith

module _ (bytes : List ℕ) (small : Bytes bytes) where
  pub read_sound : (s : Site) → read_of bytes ≡ accepted s → Sound s
  read_sound s e = (passes_sound s).0 ((passes_when s).1 (bytes, small, e))
