-- What the judgement of 11, 12 and 13 means, for sites in form. The modules named here hold the lemmas.
pub mod Rulings
pub mod Judge
use Prim.Native.Nat.{ℕ, zero, suc, ◌+◌, ◌≤◌, ◌<◌}
use mathlib.Core.Path.{◌≡◌, refl, sym, ◌∙◌}
use mathlib.Core.Logic.{◌↔◌}
use native.Mathlib.Numerals.{add-one}
use native.Mathlib.Omega.{arith}
use Rattle.rulings.specs.Outcome.{refused, accepted}
use Rattle.rulings.proofs.Laws.Outcomes.{refused_not}
use Rattle.site.specs.declared.Site.{Site}
use Rattle.site.specs.Sites.{with_schedule, used}
use Rattle.schedule.specs.Schedule.{first_crowded, scheduled}
use Rattle.reservations.specs.Reservations.{first_over, first_late}
use Rattle.judgement.specs.Judge.{judge_of}
use Rattle.reservations.specs.Words.{Carried, FullAt, Punctual, LateAt}
use Rattle.schedule.specs.Words.{Wellgapped, Served, CrowdedAt}
use Rattle.reservations.proofs.Laws.{carried_when, full_when, punctual_when, late_when}
use Rattle.schedule.proofs.Laws.Crowded.{served_when, crowded_when}
use Rattle.judgement.proofs.Laws.Judge.{Way, crowds, fills, delays, passes, judge_way}

-- What is accepted is the site with its own schedule, and what is refused has one of three numbers.
pub judge_gives : (s t : Site) → judge_of s ≡ accepted t → t ≡ scheduled s
judge_gives s t e = go (judge_way s)
  where
    go : Way s → t ≡ scheduled s
    go (crowds a q) = absurd (refused_not _ q e)
    go (fills a b q) = absurd (refused_not _ q e)
    go (delays a b c q) = absurd (refused_not _ q e)
    go (passes a b c q) = cc

pub judge_numbers : (s : Site) (number place : ℕ) → judge_of s ≡ refused number place → 11 ≤ number
judge_numbers s number place e = go (judge_way s)
  where
    go : Way s → 11 ≤ number
    go (crowds a q) = let n : number ≡ 11 = cc in omega arith
    go (fills a b q) = let n : number ≡ 12 = cc in omega arith
    go (delays a b c q) = let n : number ≡ 13 = cc in omega arith
    go (passes a b c q) = absurd (refused_not _ e q)

module _ (s : Site) (few : s.links ≤ 63) (g : Wellgapped s) where
  -- 11, 12 and 13 let a site pass just when it is as the words say.
  pub judge_accepts : (judge_of s ≡ accepted (scheduled s)) ↔ (Served s × Carried (scheduled s) × Punctual (scheduled s))
  unfolding scheduled with_schedule
  judge_accepts = (λ e. there e (judge_way s), λ w. back w (judge_way s))
    where
      there : judge_of s ≡ accepted (scheduled s) → Way s → Served s × Carried (scheduled s) × Punctual (scheduled s)
      there e (crowds a q) = absurd (refused_not _ q e)
      there e (fills a b q) = absurd (refused_not _ q e)
      there e (delays a b c q) = absurd (refused_not _ q e)
      there e (passes a b c q) = ((served_when s few g).0 a, (carried_when (scheduled s) few).0 b, (punctual_when (scheduled s)).0 c)

      back : Served s × Carried (scheduled s) × Punctual (scheduled s) → Way s → judge_of s ≡ accepted (scheduled s)
      back w (crowds a q) = absurd (omega (arith, (served_when s few g).1 w.0))
      back w (fills a b q) = absurd (omega (arith, (carried_when (scheduled s) few).1 w.1))
      back w (delays a b c q) = absurd (omega (arith, (punctual_when (scheduled s)).1 w.2))
      back w (passes a b c q) = q

  -- 11 at p.
  pub judge_crowds : (p : ℕ) → (judge_of s ≡ refused 11 p) ↔ CrowdedAt s p
  judge_crowds p = (λ e. there e (judge_way s), λ w. back ((crowded_when s few g p).1 w) (judge_way s))
    where
      there : judge_of s ≡ refused 11 p → Way s → CrowdedAt s p
      there e (crowds a q) = let n : first_crowded s ≡ p = cc in (crowded_when s few g p).0 (n, omega arith)
      there e (fills a b q) = let n : ◌≡◌ {A = ℕ} 11 12 = cc in absurd (omega arith)
      there e (delays a b c q) = let n : ◌≡◌ {A = ℕ} 11 13 = cc in absurd (omega arith)
      there e (passes a b c q) = absurd (refused_not _ e q)

      back : (first_crowded s ≡ p) × (p < used s.links + 1) → Way s → judge_of s ≡ refused 11 p
      back (e, l) (crowds a q) = rw e at q
      back (e, l) (fills a b q) = absurd (omega arith)
      back (e, l) (delays a b c q) = absurd (omega arith)
      back (e, l) (passes a b c q) = absurd (omega arith)

  -- 12 at link m.
  pub judge_fills : (m : ℕ) → (judge_of s ≡ refused 12 m) ↔ (Served s × FullAt (scheduled s) m)
  unfolding scheduled with_schedule
  judge_fills m = (λ e. there e (judge_way s), λ w. back m w (judge_way s))
    where
      there : judge_of s ≡ refused 12 m → Way s → Served s × FullAt (scheduled s) m
      there e (crowds a q) = let n : ◌≡◌ {A = ℕ} 11 12 = cc in absurd (omega arith)
      there e (fills a b q) =
          let n : suc (first_over (scheduled s)) ≡ m = sym (add-one _) ∙ cc in
          ((served_when s few g).0 a, rw (← n) ((full_when (scheduled s) few (first_over (scheduled s))).0 (refl, b)))
      there e (delays a b c q) = let n : ◌≡◌ {A = ℕ} 12 13 = cc in absurd (omega arith)
      there e (passes a b c q) = absurd (refused_not _ e q)

      back : (m : ℕ) → Served s × FullAt (scheduled s) m → Way s → judge_of s ≡ refused 12 m
      back m w (crowds a q) = absurd (omega (arith, (served_when s few g).1 w.0))
      back zero w (fills a b q) = absurd (omega (arith, w.1.link.0))
      back (suc i) w (fills a b q) = rw (((full_when (scheduled s) few i).1 w.1).0, add-one i) at q
      back zero w (delays a b c q) = absurd (omega (arith, w.1.link.0))
      back (suc i) w (delays a b c q) = let f = (full_when (scheduled s) few i).1 w.1 in absurd (omega (arith, f.0, f.1))
      back zero w (passes a b c q) = absurd (omega (arith, w.1.link.0))
      back (suc i) w (passes a b c q) = let f = (full_when (scheduled s) few i).1 w.1 in absurd (omega (arith, f.0, f.1))

  -- 13 at flow n.
  pub judge_delays : (n : ℕ) → (judge_of s ≡ refused 13 n) ↔ (Served s × Carried (scheduled s) × LateAt (scheduled s) n)
  unfolding scheduled with_schedule
  judge_delays n = (λ e. there e (judge_way s), λ w. back w ((late_when (scheduled s) n).1 w.2) (judge_way s))
    where
      there : judge_of s ≡ refused 13 n → Way s → Served s × Carried (scheduled s) × LateAt (scheduled s) n
      there e (crowds a q) = let n : ◌≡◌ {A = ℕ} 11 13 = cc in absurd (omega arith)
      there e (fills a b q) = let n : ◌≡◌ {A = ℕ} 12 13 = cc in absurd (omega arith)
      there e (delays a b c q) =
          let is : first_late (scheduled s) ≡ n = cc in
          ((served_when s few g).0 a, (carried_when (scheduled s) few).0 b, rw (← is) ((late_when (scheduled s) (first_late (scheduled s))).0 (refl, c)))
      there e (passes a b c q) = absurd (refused_not _ e q)

      back : Served s × Carried (scheduled s) × LateAt (scheduled s) n → (first_late (scheduled s) ≡ n) × (n < 64) → Way s → judge_of s ≡ refused 13 n
      back w f (crowds a q) = absurd (omega (arith, (served_when s few g).1 w.0))
      back w f (fills a b q) = absurd (omega (arith, (carried_when (scheduled s) few).1 w.1))
      back w f (delays a b c q) = rw f.0 at q
      back w f (passes a b c q) = absurd (omega (arith, f.0, f.1))
