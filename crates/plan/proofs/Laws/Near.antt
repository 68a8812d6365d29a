-- How large the number and the place of a refusal can be, for hosts that are told both in one number.
use Prim.Native.Nat.{ℕ, ◌+◌, ◌≤◌}
use mathlib.Core.Path.{◌≡◌, refl, sym, ◌∙◌, ap}
use mathlib.Core.Bool.{Bool, true, false, cond}
use mathlib.Core.List.{List}
use lib.Dec.{eqb, ltb, leb}
use lib.ListN.{length, length-append}
use lib.Seq.{length-take-le}
use borrow.Author.Tests.{ltb-true, leb-true, eqb-false}
use native.Mathlib.Omega.{arith}
use Rattle.rulings.specs.Outcome.{Outcome, accepted, refused, checked}
use Rattle.rulings.proofs.Laws.Outcomes.{refused_not}
use Rattle.site.specs.declared.Site.{Site}
use Rattle.site.specs.Sites.{used}
use Rattle.reservations.specs.Reservations.{first_over, first_late}
use Rattle.schedule.specs.Schedule.{first_crowded, scheduled}
use Rattle.judgement.specs.Judge.{reserved, judge_of}
use Rattle.format.specs.Commands.{schedule_size}
use Rattle.format.specs.Words.{Bytes}
use Rattle.plan_commands.specs.Commands.{decode}
use Rattle.plan_reader.specs.Read.{judge_form, read_of}
use Rattle.plan_writer.specs.Write.{command_bytes, plan_bytes}
use Rattle.schedule_check.specs.declared.Schedule.{Schedule}
use Rattle.schedule_reader.specs.Read.{schedule_read}
use Rattle.plan_writer.proofs.Laws.Write.{plan_most}
use Rattle.schedule_writer.proofs.Laws.Write.{links_size, links_few}
use Rattle.plan.specs.Words.{Begun, FormFails, no_end, command, more}
use Rattle.plan.specs.ScheduleWords.{ScheduleBegun, ScheduleFails}
use Rattle.plan.proofs.Laws.Faults.{first_numbers}
use Rattle.plan.proofs.Laws.Refusals.{decode_fails}
use Rattle.plan.proofs.Laws.Schedules.{check_numbers, schedule_why}

-- Every refusal has a number other than 0, and its place is at most k.
abbrev pub Near : {A : Type 0} → ℕ → Outcome A → Type 0
Near k o = (number place : ℕ) → o ≡ refused number place → (1 ≤ number) × (place ≤ k)

module _ {A : Type 0} (k : ℕ) where
  pub near_accepted : (a : A) → Near k (accepted a)
  near_accepted a number place e = absurd (refused_not _ e refl)

  pub near_refused : (number place : ℕ) → 1 ≤ number → place ≤ k → Near {A = A} k (refused number place)
  near_refused number place l m n p e =
      let a : number ≡ n = cc in let b : place ≡ p = cc in (rw a at l, rw b at m)

  -- A check at a place, and one whose place is 0, before others.
  pub near_check : (t : Bool) (number place : ℕ) (rest : Outcome A) → 1 ≤ number → (t ≡ true → place ≤ k) → Near k rest
      → Near k (cond t (refused number place) rest)
  near_check true number place rest l m w = near_refused number place l (m refl)
  near_check false number place rest l m w = w

  pub near_checked : (number : ℕ) (others : Outcome A) → Near k others → Near k (checked number others)
  unfolding checked
  near_checked number others w = go (eqb number 0) refl
    where
      go : (t : Bool) → eqb number 0 ≡ t → Near k (cond t others (refused number 0))
      go true e = w
      go false e = let some : number ≡ 0 → ⊥ = eqb-false _ _ e in near_refused number 0 (omega arith) (omega arith)

reserved_near : (s : Site) → Near 763 (reserved s)
unfolding reserved used
reserved_near s =
    near_check 763 (ltb (first_over s) (used s.links)) 12 _ _ (omega arith) (λ e. omega (arith, ltb-true (first_over s) (used s.links) e))
    (near_check 763 (ltb (first_late s) 64) 13 _ _ (omega arith) (λ e. omega (arith, ltb-true (first_late s) 64 e)) (near_accepted 763 _))

judge_near : (s : Site) → Near 763 (judge_of s)
unfolding judge_of used
judge_near s =
    near_check 763 (leb (first_crowded s) (used s.links)) 11 _ _ (omega arith) (λ e. omega (arith, leb-true (first_crowded s) (used s.links) e))
    (reserved_near (scheduled s))

-- The commands before a place are those of a site, so the place is at most 762.
begun_near : (bytes : List ℕ) (at : ℕ) (s : Site) → Begun bytes at s → at ≤ 762
unfolding plan_bytes
begun_near bytes at s w =
    let long : length (command_bytes s) ≡ at = sym (ap length w.are) ∙ length-take-le at bytes w.within in
    let all : length (plan_bytes s) ≡ length (command_bytes s) + 1 = simp length-append refl in
    omega (arith, plan_most s w.formed.few)

form_near : (bytes : List ℕ) (number place : ℕ) → FormFails bytes number place → (1 ≤ number) × (place ≤ 763)
form_near bytes number place (no_end s w e n) = (omega arith, omega (arith, begun_near bytes place s w))
form_near bytes number place (command s w l t f) =
    ((first_numbers bytes place s number f).0, omega (arith, begun_near bytes place s w))
form_near bytes number place (more s at w t e l n) = (omega arith, omega (arith, begun_near bytes at s w))

pub read_near : (bytes : List ℕ) → Bytes bytes → Near 763 (read_of bytes)
unfolding read_of judge_form
read_near bytes small = go (decode bytes) refl
  where
    go : (o : Outcome Site) → decode bytes ≡ o → Near 763 (judge_form o)
    go (accepted s) e = judge_near s
    go (refused number place) e =
        let w = form_near bytes number place ((decode_fails bytes number place small).0 e) in near_refused 763 number place w.0 w.1

-- The same of a schedule: the LINKs before a place are those of at most 63 links.
links_near : (bytes : List ℕ) (at : ℕ) (s : Schedule) → ScheduleBegun bytes at s → at ≤ 378
links_near bytes at s w =
    omega (
      arith,
      ap length w.are,
      length-take-le at bytes w.within,
      links_size s (schedule_size 17) refl,
      links_few s (schedule_size 17) refl w.listed.few,
    )

pub schedule_near : (bytes : List ℕ) → Bytes bytes → Near 763 (schedule_read bytes)
schedule_near bytes small number place e = go ((schedule_why bytes small number place).0 e)
  where
    go : ScheduleFails bytes number place → (1 ≤ number) × (place ≤ 763)
    go (no_end s w e n) = (omega arith, omega (arith, links_near bytes place s w))
    go (command s w l t f) = ((check_numbers bytes place s number f).0, omega (arith, links_near bytes place s w))
    go (more s at w t e l n) = (omega arith, omega (arith, links_near bytes at s w))
