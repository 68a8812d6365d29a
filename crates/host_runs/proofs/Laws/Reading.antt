-- What refuses a reading, number by number, of plan bytes and of schedule files.
use Prim.Native.Nat.{ℕ, ◌≤◌, ◌<◌}
use mathlib.Core.Path.{◌≡◌, refl}
use mathlib.Core.List.{List}
use mathlib.Core.Logic.{◌⊎◌, inl, inr, ◌↔◌}
use native.Mathlib.Omega.{arith}
use Rattle.rulings.specs.Outcome.{Outcome, accepted, refused, Checks, none, check, Ruled}
use Rattle.rulings.proofs.Laws.Outcomes.{refused_not}
use Rattle.lists.proofs.Laws.Search.{lt_or_le}
use Rattle.site.specs.declared.Site.{Site}
use Rattle.judgement.specs.Judge.{judge_of}
use Rattle.judgement.proofs.Laws.Judge.{Way, crowds, fills, delays, passes, judge_way}
use Rattle.format.specs.Words.{Bytes}
use Rattle.schedule_check.specs.declared.Schedule.{Schedule}
use Rattle.schedule_reader.specs.Read.{schedule_read}
use Rattle.plan_reader.specs.Read.{read_of}
use Rattle.plan.specs.Words.{FormFails, no_end, command, more}
use Rattle.plan.specs.ScheduleWords.{ScheduleFails}
use Rattle.plan.proofs.Laws.{refused_form, refused_crowded, refused_full, refused_late, schedule_refused}
use Rattle.plan.proofs.Laws.Faults.{first_of_none, first_among}
use Rattle.plan.proofs.Laws.Acceptance.{read_judged}
use Rattle.host_runs.specs.Words.{plan_checks, file_checks}
use Rattle.host_runs.proofs.Laws.Asked.{check_reading}

-- What is refused with no number is accepted.
unrefused : {A : Type 0} (o : Outcome A) → ((number place : ℕ) → o ≡ refused number place → ⊥) → (a : A) × (o ≡ accepted a)
unrefused (accepted a) never = (a, refl)
unrefused (refused number place) never = absurd (never number place refl)

-- The judgement refuses with 11, 12 or 13.
judged_among : (P : ℕ → Type 0) → P 11 → P 12 → P 13 → (s : Site) (number place : ℕ) → judge_of s ≡ refused number place → P number
judged_among P eleven twelve thirteen s number place e = go (judge_way s)
  where
    go : Way s → P number
    go (crowds a q) = let n : number ≡ 11 = cc in rw n eleven
    go (fills a b q) = let n : number ≡ 12 = cc in rw n twelve
    go (delays a b c q) = let n : number ≡ 13 = cc in rw n thirteen
    go (passes a b c q) = absurd (refused_not _ e q)

-- A call r on plan bytes tells the refusal of their reading.
module _ {A : Type 0} (gives : A → Type 0) (o r : Outcome A) (bytes : List ℕ) (small : Bytes bytes)
    (tells : (n p : ℕ) → read_of bytes ≡ refused n p → r ≡ refused n p) where
  -- No refusal has this number.
  abbrev Not : ℕ → Type 0
  Not n = (p : ℕ) → read_of bytes ≡ refused n p → ⊥

  form_check : (n : ℕ) → n ≤ 10 → (cs : Checks) → (Not n → (r ≡ o) ↔ Ruled gives cs o) → (r ≡ o) ↔ Ruled gives (check n (λ p. FormFails bytes n p) cs) o
  form_check n few cs behind =
      check_reading gives o (read_of bytes) r tells n (λ p. FormFails bytes n p) cs
      (λ p. (λ e. (refused_form bytes small n p).0 (e, few), λ w. ((refused_form bytes small n p).1 w).0)) behind

  none_left : Not 2 → Not 3 → Not 4 → Not 5 → Not 6 → Not 7 → Not 8 → Not 10 → Not 11 → Not 12 → Not 13 → (n : ℕ) → Not n
  none_left n2 n3 n4 n5 n6 n7 n8 n10 n11 n12 n13 n p e = go (lt_or_le n 11)
    where
      form : FormFails bytes n p → ⊥
      form (no_end s b l z) = n2 p (rw z at e)
      form (command s b l t f) =
          first_among Not 3 n _ _ n3 (first_among Not 2 n _ _ n2 (first_among Not 4 n _ _ n4 (first_among Not 7 n _ _ n7
          (first_among Not 5 n _ _ n5 (first_among Not 6 n _ _ n6 (first_among Not 8 n _ _ n8 (λ g. absurd (first_of_none n g)))))))) f p e
      form (more s at b t l q z) = n10 p (rw z at e)

      go : (n < 11) ⊎ (11 ≤ n) → ⊥
      go (inl l) = form ((refused_form bytes small n p).0 (e, omega arith))
      go (inr l) = let w = (read_judged bytes small n p l).0 e in judged_among Not n11 n12 n13 w.0 n p w.2 p e

  pub plan_first : (cs : Checks) → ((s : Site) → read_of bytes ≡ accepted s → (r ≡ o) ↔ Ruled gives cs o) → (r ≡ o) ↔ Ruled gives (plan_checks bytes cs) o
  plan_first cs behind =
      form_check 3 (omega arith) _ (λ n3. form_check 2 (omega arith) _ (λ n2. form_check 4 (omega arith) _ (λ n4. form_check 7 (omega arith) _
      (λ n7. form_check 5 (omega arith) _ (λ n5. form_check 6 (omega arith) _ (λ n6. form_check 8 (omega arith) _ (λ n8. form_check 10 (omega arith) _
      (λ n10. check_reading gives o (read_of bytes) r tells 11 _ _ (refused_crowded bytes small)
      (λ n11. check_reading gives o (read_of bytes) r tells 12 _ _ (refused_full bytes small)
      (λ n12. check_reading gives o (read_of bytes) r tells 13 _ cs (refused_late bytes small)
      (λ n13. let s = unrefused (read_of bytes) (none_left n2 n3 n4 n5 n6 n7 n8 n10 n11 n12 n13) in behind s.0 s.1)))))))))))

-- A call r on a schedule file tells the refusal of its reading.
module _ {A : Type 0} (gives : A → Type 0) (o r : Outcome A) (file : List ℕ) (small : Bytes file)
    (tells : (n p : ℕ) → schedule_read file ≡ refused n p → r ≡ refused n p) where
  abbrev NotOf : ℕ → Type 0
  NotOf n = (p : ℕ) → schedule_read file ≡ refused n p → ⊥

  link_check : (n : ℕ) (cs : Checks) → (NotOf n → (r ≡ o) ↔ Ruled gives cs o) → (r ≡ o) ↔ Ruled gives (check n (λ p. ScheduleFails file n p) cs) o
  link_check n cs behind = check_reading gives o (schedule_read file) r tells n (λ p. ScheduleFails file n p) cs (schedule_refused file small n) behind

  no_link_left : NotOf 2 → NotOf 3 → NotOf 10 → NotOf 21 → NotOf 22 → (n : ℕ) → NotOf n
  no_link_left n2 n3 n10 n21 n22 n p e = go ((schedule_refused file small n p).0 e)
    where
      go : ScheduleFails file n p → ⊥
      go (no_end s b l z) = n2 p (rw z at e)
      go (command s b l t f) =
          first_among NotOf 3 n _ _ n3 (first_among NotOf 2 n _ _ n2 (first_among NotOf 21 n _ _ n21 (first_among NotOf 22 n _ _ n22
          (λ g. absurd (first_of_none n g))))) f p e
      go (more s at b t l q z) = n10 p (rw z at e)

  pub file_first : ((s : Schedule) → schedule_read file ≡ accepted s → (r ≡ o) ↔ Ruled gives none o) → (r ≡ o) ↔ Ruled gives (file_checks file) o
  file_first behind =
      link_check 3 _ (λ n3. link_check 2 _ (λ n2. link_check 21 _ (λ n21. link_check 22 _ (λ n22. link_check 10 none
      (λ n10. let s = unrefused (schedule_read file) (no_link_left n2 n3 n10 n21 n22) in behind s.0 s.1)))))
