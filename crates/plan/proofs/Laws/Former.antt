-- A plan that was accepted by wanted gaps is accepted by periods: no period is above its wanted gap, so no width and no sum along a route has grown.
use Prim.Native.Nat.{ℕ, zero, suc, ◌+◌, ◌*◌, ◌≤◌}
use mathlib.Core.Path.{◌≡◌, refl}
use mathlib.Core.Bool.{Bool, true, false, cond, ◌&&◌}
use mathlib.Core.List.{List}
use mathlib.Core.Logic.{◌↔◌}
use lib.Dec.{ltb, leb}
use lib.ListN.{get_or}
use borrow.Author.Tests.{ltb-false, le-ltb, leb-false, lt-leb}
use native.Mathlib.Numerals.{add-one}
use native.Mathlib.Nat.{mul-le-mul_left}
use native.Mathlib.Omega.{arith}
use Rattle.rulings.specs.Outcome.{Outcome, accepted, refused}
use Rattle.rulings.proofs.Laws.Outcomes.{past, refused_not}
use Rattle.lists.proofs.Laws.Search.{first_none}
use Rattle.site.specs.declared.Site.{Site}
use Rattle.site.specs.Sites.{used, live, with_schedule}
use Rattle.tree.specs.Tree.{of_link, has}
use Rattle.reservations.specs.Reservations.{periods_judged, route_of, width_at, width_on, load, first_over, along, first_late}
use Rattle.lists.specs.Lists.{sum_to}
use Rattle.reservations.specs.Words.{Carried, Punctual}
use Rattle.schedule.specs.Schedule.{gaps_under, rank, assigned_under, base_under, crowded, first_crowded, entry_assigned, offsets_assigned, periods_assigned, scheduled}
use Rattle.judgement.specs.Judge.{reserved, judge_of}
use Rattle.schedule.specs.Words.{Wellgapped, Served, Timed}
use Rattle.schedule.proofs.Laws.{period_within, bound_within}
use Rattle.judgement.proofs.Laws.Judge.{scheduled_bare}
use Rattle.schedule.proofs.Laws.Crowded.{served_when}
use Rattle.site_check.specs.Check.{node_of, flow_of}
use Rattle.site_check.specs.Words.{Formed}
use Rattle.site_check.proofs.Laws.Forms.{formed_gapped}
use Rattle.site_check.proofs.Laws.Flows.{live_fits}
use Rattle.format.specs.Words.{Bytes}
use Rattle.plan_commands.specs.Commands.{decode}
use Rattle.plan_writer.specs.Write.{plan_bytes}
use Rattle.plan.specs.Words.{InForm}
use Rattle.plan.specs.Former.{former_width, former_load, former_over, first_former_over, former_late, first_former_late, former_reserved, former_judge_of}
use Rattle.plan.specs.Former.{former_form, former_read, FormerlyCarried, FormerlyPunctual}
use Rattle.plan.proofs.Laws.Refusals.{decode_form}
use Rattle.plan.proofs.Laws.Acceptance.{decode_plan}

-- What the former judgement accepted, in words.
module _ (s : Site) (g : Formed s) where
  former_carried : (used s.links ≤ first_former_over (scheduled s)) ↔ FormerlyCarried s
  unfolding first_former_over former_over former_load former_width scheduled with_schedule live route_of of_link used
  former_carried = (
    λ h. record { within = link h },
    λ w. (first_none (former_over s) (used s.links)).1 (λ i l. le-ltb _ (former_load s (i + 1)) (rw (add-one i) (w.within (suc i) (omega arith) (omega arith)))),
  )
    where
      link : used s.links ≤ first_former_over (scheduled s) → (m : ℕ) → 1 ≤ m → m ≤ s.links → former_load s m ≤ of_link s.capacities m
      link h zero o l = absurd (omega arith)
      link h (suc i) o l = rw (← add-one i) (ltb-false _ _ ((first_none (former_over s) (used s.links)).0 h i (omega (arith, g.few))))

  former_punctual : (64 ≤ first_former_late (scheduled s)) ↔ FormerlyPunctual s
  unfolding first_former_late former_late scheduled with_schedule live route_of
  former_punctual = (
    λ h. record { within = λ n l on. ltb-false _ _ (rw on at ((first_none (former_late s) 64).0 h n l)) },
    λ w. (first_none (former_late s) 64).1 (λ n l. go n (live s n) (w.within n l)),
  )
    where
      go : (n : ℕ) (t : Bool) → (t ≡ true → along s.gaps (route_of s n) ≤ get_or s.deadlines n 0)
          → t && ltb (get_or s.deadlines n 0) (along s.gaps (route_of s n)) ≡ false
      go n true h = le-ltb _ _ (h refl)
      go n false h = refl

  pub former_judged : (t : Site) → (former_judge_of s ≡ accepted t) ↔ (Served s × FormerlyCarried s × FormerlyPunctual s × (t ≡ scheduled s))
  unfolding former_judge_of former_reserved scheduled with_schedule
  former_judged t = (there, back)
    where
      gapped : Wellgapped s
      gapped = formed_gapped s g

      there : former_judge_of s ≡ accepted t → Served s × FormerlyCarried s × FormerlyPunctual s × (t ≡ scheduled s)
      there e =
          let a = past (leb (first_crowded s) (used s.links)) 11 (first_crowded s) _ e in
          let b = past (ltb (first_former_over (scheduled s)) (used s.links)) 12 _ _ a.1 in
          let c = past (ltb (first_former_late (scheduled s)) 64) 13 _ _ b.1 in (
            (served_when s g.few gapped).0 (leb-false _ _ a.0),
            former_carried.0 (ltb-false _ _ b.0),
            former_punctual.0 (ltb-false _ _ c.0),
            cc,
          )

      back : Served s × FormerlyCarried s × FormerlyPunctual s × (t ≡ scheduled s) → former_judge_of s ≡ accepted t
      back w = simp (lt-leb _ _ ((served_when s g.few gapped).1 w.0), le-ltb _ _ (former_carried.1 w.1), le-ltb _ _ (former_punctual.1 w.2), w.3)

-- With its own schedule a site in form is one that the laws of the schedule speak of.
scheduled_timed : (s : Site) → Formed s → Served s → Timed (scheduled s)
unfolding scheduled with_schedule gaps_under rank assigned_under entry_assigned offsets_assigned periods_assigned node_of
scheduled_timed s g served = record {
  few = g.few;
  gapped = record { limits = (formed_gapped s g).limits };
  below = λ i l. (g.nodes i l).parent_below;
  served = record { fit = served.fit };
  offsets = refl;
  periods = refl;
}

-- No width has grown, and so no sum of widths.
sum_rises : (f h : ℕ → ℕ) (k : ℕ) → ((i : ℕ) → f i ≤ h i) → sum_to f k ≤ sum_to h k
unfolding sum_to
sum_rises f h zero w = omega arith
sum_rises f h (suc k) w = omega (arith, w k, sum_rises f h k w)

module _ (s : Site) (g : Formed s) (served : Served s) where
  width_shrinks : (m n : ℕ) → 1 ≤ m → m ≤ s.links → width_on (scheduled s) m n ≤ former_width s m n
  unfolding width_on former_width width_at periods_judged scheduled with_schedule live route_of
  width_shrinks m n o l = go (live s n && has m (route_of s n))
    where
      go : (b : Bool) → cond b (get_or s.rates n 0 * of_link (periods_assigned s) m) 0 ≤ cond b (get_or s.rates n 0 * of_link s.gaps m) 0
      go true = mul-le-mul_left (get_or s.rates n 0) (period_within (scheduled s) (scheduled_timed s g served) m o l).1
      go false = omega arith

  pub still_carried : FormerlyCarried s → Carried (scheduled s)
  unfolding load former_load scheduled with_schedule
  still_carried w = record {
    within = λ m o l. omega (arith, w.within m o l, sum_rises (width_on (scheduled s) m) (former_width s m) 64 (λ n. width_shrinks m n o l));
  }

  pub still_punctual : FormerlyPunctual s → Punctual (scheduled s)
  unfolding scheduled with_schedule live route_of flow_of
  still_punctual w = record {
    within = λ n l on. omega (arith, w.within n l on, bound_within (scheduled s) (scheduled_timed s g served) n (live_fits s g n on).entry_most);
  }

-- What comes in as a schedule played no part.
former_bare : (s : Site) (os ps : List ℕ) → former_judge_of (with_schedule s os ps) ≡ former_judge_of s
unfolding former_judge_of with_schedule first_crowded crowded base_under assigned_under gaps_under
former_bare s os ps = rw (scheduled_bare s os ps)

-- A former reading in its two steps, as `read_plan_lem` and `read_form` have those of a reading now.
pub former_plan : (s : Site) → Formed s → former_read (plan_bytes s) ≡ former_judge_of s
unfolding former_read former_form
former_plan s g = rw (decode_plan s g) (former_bare s _ _)

pub former_form_lem : (bytes : List ℕ) → Bytes bytes → (t : Site) → former_read bytes ≡ accepted t → (s : Site) × InForm bytes s × (former_judge_of s ≡ accepted t)
unfolding former_read former_form
former_form_lem bytes small t e = go (decode bytes) refl e
  where
    go : (r : Outcome Site) → decode bytes ≡ r → former_form r ≡ accepted t → (s : Site) × InForm bytes s × (former_judge_of s ≡ accepted t)
    go (accepted s) d q = (s, decode_form bytes small s d, q)
    go (refused number place) d q = absurd (refused_not _ refl q)

-- Behind 11 there are 12 and 13 alone, so up to 11 both judgements answer alike.
high : (t u : Bool) (link flow : ℕ) (s : Site) (number place : ℕ)
    → cond t (refused 12 link) (cond u (refused 13 flow) (accepted s)) ≡ refused number place → 12 ≤ number
high true u link flow s number place e = let n : 12 ≡ number = cc in omega arith
high false true link flow s number place e = let n : 13 ≡ number = cc in omega arith
high false false link flow s number place e = absurd (refused_not _ e refl)

reserved_high : (s : Site) (number place : ℕ) → reserved s ≡ refused number place → 12 ≤ number
unfolding reserved
reserved_high s number place e = high (ltb (first_over s) (used s.links)) (ltb (first_late s) 64) _ _ s number place e

former_high : (s : Site) (number place : ℕ) → former_reserved s ≡ refused number place → 12 ≤ number
unfolding former_reserved
former_high s number place e = high (ltb (first_former_over s) (used s.links)) (ltb (first_former_late s) 64) _ _ s number place e

pub judged_alike : (s : Site) (number place : ℕ) → number ≤ 11 → (judge_of s ≡ refused number place) ↔ (former_judge_of s ≡ refused number place)
unfolding judge_of former_judge_of
judged_alike s number place l = go (leb (first_crowded s) (used s.links))
  where
    go : (t : Bool)
        → (cond t (refused 11 (first_crowded s)) (reserved (scheduled s)) ≡ refused number place)
        ↔ (cond t (refused 11 (first_crowded s)) (former_reserved (scheduled s)) ≡ refused number place)
    go true = (λ e. e, λ e. e)
    go false = (
      λ e. absurd (omega (arith, reserved_high (scheduled s) number place e)),
      λ e. absurd (omega (arith, former_high (scheduled s) number place e)),
    )
