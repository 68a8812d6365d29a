-- Answers: what a number tells, and that every refusal and every value has room in one.
use Prim.Native.Nat.{ℕ, ◌/◌, ◌%◌, ◌^◌, ◌≤◌, ◌<◌}
use mathlib.Core.Path.{◌≡◌, refl, ap}
use mathlib.Core.Bool.{Bool, true, false, not, cond}
use mathlib.Core.List.{List, ◌++◌}
use lib.Dec.{ltb, leb}
use lib.ListN.{length, drop}
use borrow.Author.Tests.{ne_eqb, leb-true}
use native.Mathlib.Omega.{arith}
use Rattle.rulings.specs.Outcome.{Outcome, accepted, refused, number_of}
use Rattle.rulings.specs.declared.Fault.{Fault}
use Rattle.rulings.proofs.Laws.Outcomes.{refused_not}
use Rattle.rulings.proofs.Laws.Faults.{number_some}
use Rattle.site.specs.declared.Site.{Site}
use Rattle.site.specs.Sites.{live}
use Rattle.schedule_check.specs.declared.Schedule.{Schedule}
use Rattle.schedule_writer.specs.Write.{schedule_bytes}
use Rattle.slices.specs.Written.{written, encoded, handed}
use Rattle.schedule_writer.proofs.Laws.Write.{links_few, schedule_size_lem}
use Rattle.format.specs.Commands.{schedule_size}
use Rattle.flow_checks.specs.Flows.{number_ruling}
use Rattle.plan.proofs.Laws.Near.{Near, near_accepted, near_refused, near_check}
use Rattle.host_answers.specs.Answers.{told, answer_of, Tellable, Short}

-- A value below 2^56 is told as such, and so are a number other than 0 and a place below 2^56.
pub told_value : (v : ℕ) → v < 2 ^ 56 → told v ≡ accepted v
unfolding told
told_value v l = let q : v / 2 ^ 56 ≡ 0 = omega arith in let r : v % 2 ^ 56 ≡ v = omega arith in rw (q, r)

pub told_no : (answer number place : ℕ) → answer ≡ answer_of (refused number place) → 1 ≤ number → place < 2 ^ 56 → told answer ≡ refused number place
unfolding told answer_of
told_no answer number place e some l =
    let q : answer / 2 ^ 56 ≡ number = omega arith in
    let r : answer % 2 ^ 56 ≡ place = omega arith in
    rw (q, r, ne_eqb number 0 (omega arith))

-- The number of a fault is not 0, so a refusal with a place below 2^56 is told as such.
pub told_fault : (answer : ℕ) (f : Fault) (place : ℕ) → answer ≡ answer_of (refused (number_of f) place) → place < 2 ^ 56 → told answer ≡ refused (number_of f) place
told_fault answer f place e l = told_no answer (number_of f) place e (omega (arith, number_some f)) l

pub tellable : {A : Type 0} (o : Outcome A) → Near 763 o → Tellable o
tellable o w = record { near = λ number place e. let near = w number place e in (near.0, omega (arith, near.1)) }

-- The refusals of a flow's number.
pub number_tellable : (s : Site) (n : ℕ) → n ≤ 255 → Tellable (number_ruling s n)
unfolding number_ruling
number_tellable s n l =
    tellable _ (near_check 763 (ltb 63 n) 5 0 _ (omega arith) (λ e. omega arith)
    (near_check 763 (not (live s n)) 16 n _ (omega arith) (λ e. omega arith) (near_accepted 763 tt)))

-- An outcome has room in an answer, its refusal and its value.
abbrev pub Room : Outcome ℕ → Type 0
Room o = Tellable o × Short o

pub value_room : (v : ℕ) → v < 2 ^ 56 → Room (accepted v)
value_room v l = (record { near = λ number place e. absurd (refused_not _ e refl) }, record { low = λ u e. let z : v ≡ u = cc in omega arith })

pub refusal_room : (number place : ℕ) → 1 ≤ number → place ≤ 763 → Room (refused number place)
refusal_room number place some near =
    (tellable _ (near_refused 763 number place some near), record { low = λ v e. absurd (refused_not _ refl e) })

-- What is written has at most 763 bytes.
module _ (bytes out : List ℕ) where
  written_room : length bytes ≤ 763 → Room (written bytes out).0
  unfolding written
  written_room few = go (ltb (length out) (length bytes))
    where
      go : (b : Bool) → Room (cond {A = Outcome ℕ × List ℕ} b (refused 1 0, out) (accepted (length bytes), bytes ++ drop (length bytes) out)).0
      go true = refusal_room 1 0 (omega arith) (omega arith)
      go false = value_room (length bytes) (omega arith)

  pub handed_room : (p : Bool) → (p ≡ true → length bytes ≤ 763) → (o : Outcome ℕ) (ds : List ℕ) → (o, ds) ≡ handed p bytes out → Room o
  unfolding handed
  handed_room p few o ds e = rw (ap (λ (q : Outcome ℕ × List ℕ). q.0) e) (go p few)
    where
      go : (a : Bool) → (a ≡ true → length bytes ≤ 763) → Room (cond {A = Outcome ℕ × List ℕ} a (written bytes out) (refused 14 0, out)).0
      go true few = written_room (few refl)
      go false few = refusal_room 14 0 (omega arith) (omega arith)

  pub encoded_room : (links : ℕ) → (links ≤ 63 → length bytes ≤ 763) → (o : Outcome ℕ) (ds : List ℕ) → (o, ds) ≡ encoded links bytes out → Room o
  unfolding encoded
  encoded_room links few o ds e = handed_room (leb links 63) (λ t. few (leb-true _ _ t)) o ds e

pub schedule_few : (s : Schedule) → s.links ≤ 63 → length (schedule_bytes s) ≤ 763
schedule_few s l = omega (arith, schedule_size_lem s (schedule_size 17) refl, links_few s (schedule_size 17) refl l)
