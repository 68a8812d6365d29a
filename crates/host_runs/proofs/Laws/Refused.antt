-- A refused call leaves the memory lent to it: one lemma for each form that the definitions of the calls have.
use Prim.Native.Nat.{ℕ}
use mathlib.Core.Path.{◌≡◌, refl, ap}
use mathlib.Core.Bool.{Bool, true, false, not, cond}
use mathlib.Core.List.{List, [], ◌∷◌}
use lib.Dec.{eqb, ltb}
use lib.ListN.{length}
use Rattle.rulings.specs.Outcome.{Outcome, Ruling, accepted, refused}
use Rattle.rulings.proofs.Laws.Outcomes.{refused_not}
use Rattle.site.specs.declared.Site.{Site}
use Rattle.site.specs.declared.Flow.{Flow}
use Rattle.slices.specs.Written.{written, handed}
use Rattle.slot_rule.specs.Rule.{base}
use Rattle.slot_rule.specs.Assign.{first_bad, assigned}
use Rattle.plan_reader.specs.Read.{read_of}
use Rattle.plan_writer.specs.Write.{plan_bytes}
use Rattle.site_check.specs.Check.{written_if}
use Rattle.admission.specs.Calls.{admit_of, release_of}
use Rattle.moves.specs.Hops.{own}
use Rattle.simulation.specs.Slot.{slot_of, start_of}
use Rattle.simulation.proofs.Laws.{slot_refused, start_refused}
use Rattle.host_answers.specs.Answers.{valued}
use Rattle.host_answers.specs.Calls.{by_reading, on_site, of_length}
use Rattle.host_calls.specs.Calls.{schedule_from, answered, start_from, slot_from}
use Rattle.host_changes.specs.Changes.{stored_with, rewritten, admit_from, release_from}
use Rattle.host_lists.specs.Lists.{schedule_read_from, schedule_written_from}
use Rattle.host_runs.specs.Calls.{leaving_one, leaving_two}

-- Where r is a refusal, `kept` is what it leaves.
abbrev pub Leaves : {R : Type 0} → (R → Outcome ℕ × List (List ℕ)) → List (List ℕ) → R → Type 0
Leaves leaving kept r = (number place : ℕ) → (leaving r).0 ≡ refused number place → (leaving r).1 ≡ kept

module _ {R : Type 0} (leaving : R → Outcome ℕ × List (List ℕ)) (kept : List (List ℕ)) where
  leaves_choice : (t : Bool) (a b : R) → Leaves leaving kept a → Leaves leaving kept b → Leaves leaving kept (cond t a b)
  leaves_choice true a b v w = v
  leaves_choice false a b v w = w

  leaves_length : (list : List ℕ) (n : ℕ) (a b : R) → Leaves leaving kept a → Leaves leaving kept b → Leaves leaving kept (of_length list n a b)
  unfolding of_length
  leaves_length list n a b v w = leaves_choice (not (eqb (length list) n)) a b v w

  leaves_reading : {B : Type 0} (o : Outcome B) (other : ℕ → ℕ → R) (f : B → R)
      → ((number place : ℕ) → Leaves leaving kept (other number place)) → ((b : B) → Leaves leaving kept (f b)) → Leaves leaving kept (by_reading o other f)
  unfolding by_reading
  leaves_reading (accepted b) other f v w = w b
  leaves_reading (refused number place) other f v w = v number place

  leaves_site : (bytes : List ℕ) (a : R) (f : Site → R) → Leaves leaving kept a → ((s : Site) → Leaves leaving kept (f s)) → Leaves leaving kept (on_site bytes a f)
  unfolding on_site
  leaves_site bytes a f v w = leaves_reading (read_of bytes) (λ number place. a) f (λ number place. v) w

-- What a writer leaves.
leaves_handed : (p : Bool) (bytes out : List ℕ) → Leaves leaving_one (out ∷ []) (handed p bytes out)
unfolding handed written
leaves_handed p bytes out =
    leaves_choice leaving_one _ p _ _
    (leaves_choice leaving_one _ (ltb (length out) (length bytes)) _ _ (λ number place e. refl) (λ number place e. absurd (refused_not _ e refl)))
    (λ number place e. refl)

-- What a start or a slot leaves ..
leaves_answered : (counters : List ℕ) (q : Ruling × List ℕ) → ((number place : ℕ) → (refused number place, q.1) ≡ q → q.1 ≡ counters)
    → Leaves leaving_one (counters ∷ []) (answered q)
unfolding answered valued
leaves_answered counters (accepted a, ds) w number place e = absurd (refused_not _ e refl)
leaves_answered counters (refused n p, ds) w number place e = let k : ds ≡ counters = w n p refl in rw k

-- .. and what an admission or a release does.
leaves_rewritten : (counters out : List ℕ) (q : Ruling × Site × List ℕ) → Leaves leaving_two (counters ∷ out ∷ []) (rewritten q counters out)
unfolding rewritten stored_with
leaves_rewritten counters out (accepted a, next, new) = go (written_if next (plan_bytes next) out) (leaves_handed _ _ out)
  where
    go : (w : Outcome ℕ × List ℕ) → Leaves leaving_one (out ∷ []) w → Leaves leaving_two (counters ∷ out ∷ []) (stored_with w new counters)
    go (accepted size, bytes) l number place e = absurd (refused_not _ e refl)
    go (refused n p, bytes) l number place e = ap (λ memory. counters ∷ memory) (l n p refl)
leaves_rewritten counters out (refused n p, next, new) = λ number place e. refl

-- The functions that are lent memory, in the header's order.
pub schedule_leaves : (plan out : List ℕ) → Leaves leaving_one (out ∷ []) (schedule_from plan out)
unfolding schedule_from
schedule_leaves plan out = leaves_reading leaving_one (out ∷ []) _ _ _ (λ n p number place e. refl) (λ s. leaves_handed _ _ out)

pub read_schedule_leaves : (file offsets periods : List ℕ) → Leaves leaving_two (offsets ∷ periods ∷ []) (schedule_read_from file offsets periods)
unfolding schedule_read_from
read_schedule_leaves file offsets periods =
    leaves_length leaving_two (offsets ∷ periods ∷ []) offsets 63 _ _ (λ number place e. refl)
    (leaves_length leaving_two (offsets ∷ periods ∷ []) periods 63 _ _ (λ number place e. refl)
    (leaves_reading leaving_two (offsets ∷ periods ∷ []) _ _ _ (λ n p number place e. refl) (λ s number place e. absurd (refused_not _ e refl))))

pub write_schedule_leaves : (links : ℕ) (offsets periods out : List ℕ) → Leaves leaving_one (out ∷ []) (schedule_written_from links offsets periods out)
unfolding schedule_written_from
write_schedule_leaves links offsets periods out =
    leaves_length leaving_one (out ∷ []) offsets 63 _ _ (λ number place e. refl)
    (leaves_length leaving_one (out ∷ []) periods 63 _ _ (λ number place e. refl) (leaves_handed _ _ out))

pub admit_leaves : (plan counters : List ℕ) (f : Flow) (out : List ℕ) → Leaves leaving_two (counters ∷ out ∷ []) (admit_from plan counters f out)
unfolding admit_from
admit_leaves plan counters f out =
    leaves_length leaving_two (counters ∷ out ∷ []) counters 576 _ _ (λ number place e. refl)
    (leaves_site leaving_two (counters ∷ out ∷ []) plan _ _ (λ number place e. refl) (λ s. leaves_rewritten counters out (admit_of s counters f)))

pub release_leaves : (plan counters : List ℕ) (n : ℕ) (out : List ℕ) → Leaves leaving_two (counters ∷ out ∷ []) (release_from plan counters n out)
unfolding release_from
release_leaves plan counters n out =
    leaves_length leaving_two (counters ∷ out ∷ []) counters 576 _ _ (λ number place e. refl)
    (leaves_site leaving_two (counters ∷ out ∷ []) plan _ _ (λ number place e. refl) (λ s. leaves_rewritten counters out (release_of s counters n)))

pub start_leaves : (plan counters : List ℕ) → Leaves leaving_one (counters ∷ []) (start_from plan counters)
unfolding start_from
start_leaves plan counters =
    leaves_length leaving_one (counters ∷ []) counters 576 _ _ (λ number place e. refl)
    (leaves_site leaving_one (counters ∷ []) plan _ _ (λ number place e. refl)
    (λ s. leaves_answered counters (start_of s counters) (start_refused s counters _)))

pub slot_leaves : (plan counters arrivals : List ℕ) (t : ℕ) → Leaves leaving_one (counters ∷ []) (slot_from plan counters arrivals t)
unfolding slot_from
slot_leaves plan counters arrivals t =
    leaves_length leaving_one (counters ∷ []) counters 576 _ _ (λ number place e. refl)
    (leaves_length leaving_one (counters ∷ []) arrivals 64 _ _ (λ number place e. refl)
    (leaves_site leaving_one (counters ∷ []) plan _ _ (λ number place e. refl)
    (λ s. leaves_answered counters (slot_of own s counters arrivals t) (slot_refused s counters _ own arrivals t))))

pub assign_leaves : (f : ℕ) (gaps offsets periods : List ℕ) → Leaves leaving_two (offsets ∷ periods ∷ []) (assigned f gaps offsets periods)
unfolding assigned
assign_leaves f gaps offsets periods =
    check (not (eqb (length offsets) (length gaps))) 1 0 _
    (check (not (eqb (length periods) (length gaps))) 1 0 _
    (check (eqb (length gaps) 0) 5 0 _
    (check (ltb 63 (length gaps)) 5 0 _
    (check (ltb (first_bad gaps) (length gaps)) 5 (first_bad gaps) _
    (check (eqb (base f gaps) 0) 11 0 _ (λ number place e. absurd (refused_not _ e refl)))))))
  where
    check : (t : Bool) (m p : ℕ) (rest : Outcome ℕ × List ℕ × List ℕ) → Leaves leaving_two (offsets ∷ periods ∷ []) rest
        → Leaves leaving_two (offsets ∷ periods ∷ []) (cond t (refused m p, offsets, periods) rest)
    check t m p rest w = leaves_choice leaving_two _ t _ rest (λ number place e. refl) w
