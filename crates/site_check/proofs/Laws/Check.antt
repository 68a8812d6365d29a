-- The tests of 14, one law for each answer that a function of src/lib.rt gives.
use Prim.Native.Nat.{◌≤◌}
use mathlib.Core.Path.{◌≡◌, refl, sym, ◌∙◌, ap}
use mathlib.Core.Bool.{true, not, ◌&&◌, and_assoc, and-eq-true_iff}
use lib.Dec.{eqb, leb}
use lib.Pointwise.{pointwise}
use lib.ListN.{length}
use borrow.Author.Tests.{ne_eqb, leb-true}
use Rattle.site.specs.declared.Site.{Site}
use Rattle.std.specs.Prelude.{Result, Ok, Err}
use Rattle.std.specs.Result.{is_err, is_ok}
use Rattle.rulings.specs.declared.Fault.{Fault}
use Rattle.rulings.specs.declared.Refusal.{Refusal}
use Rattle.rulings.proofs.Laws.Faults.{number_some}
use Rattle.rulings.specs.Outcome.{accepted, number_of, fault_number, outcome, given}
use Rattle.schedule.specs.Schedule.{offsets_assigned, periods_assigned, scheduled}
use Rattle.judgement.specs.Judge.{judge_of}
use Rattle.site.specs.Sites.{with_schedule}
use Rattle.judgement.proofs.Laws.{judge_gives}
use Rattle.site_check.specs.Check.{shaped, first_ill_node, first_ill_flow, formed, accepts, stands, passes_of}
use Rattle.lists.proofs.Laws.Equal.{same_test}

-- A fault is one whose number is not 0.
pub faulty : (r : Result (Unit {0}) Fault) → is_err r ≡ not (eqb (fault_number r) 0)
faulty (Ok a) = refl
faulty (Err f) = rw (ne_eqb (number_of f) 0 (number_some f))

-- What lets a site pass gives it the schedule that its own nodes and flows have.
judged_lists : (s t : Site) → judge_of s ≡ accepted t → (t.offsets ≡ offsets_assigned s) × (t.periods ≡ periods_assigned s)
unfolding scheduled with_schedule
judged_lists s t e = let q = judge_gives s t e in (ap (λ (u : Site). u.offsets) q, ap (λ (u : Site). u.periods) q)

-- A site stands where 11, 12 and 13 let it pass, and its own lists are those of the site with its schedule. `r` and `t` are what the judgement comes to.
pub stands_as : (s t : Site) (r : Result (Unit {0}) Refusal) → given (outcome r) t ≡ judge_of s
    → stands s ≡ is_ok r && (pointwise eqb s.offsets t.offsets && pointwise eqb s.periods t.periods)
unfolding stands accepts
stands_as s t (Ok a) e =
    let q = judged_lists s t (sym e) in rw (same_test, same_test, ← e, q.0, q.1)
stands_as s t (Err f) e = rw (← e)

-- A site's type tells how long its lists are, so that three parts are left to judge.
pub passes_as : (s : Site) → length s.parents ≡ 63 → length s.capacities ≡ 63 → length s.gaps ≡ 63 → length s.offsets ≡ 63 → length s.periods ≡ 63
    → length s.states ≡ 64 → length s.entries ≡ 64 → length s.rates ≡ 64 → length s.deadlines ≡ 64
    → passes_of s ≡ leb s.links 63 && (leb 63 (first_ill_node s) && (leb 64 (first_ill_flow s) && stands s))
unfolding passes_of shaped formed
passes_as s a b c d e f g h i = rw (a, b, c, d, e, f, g, h, i) (and_assoc (leb s.links 63) _ _ ∙ rw and_assoc)

-- A site that passes has 63 links at most.
pub passes_few : (s : Site) → passes_of s ≡ true → s.links ≤ 63
unfolding passes_of formed
passes_few s e =
    leb-true _ _ ((and-eq-true_iff _ _).0 ((and-eq-true_iff (formed s) _).0 ((and-eq-true_iff (shaped s) _).0 e).1).0).0
