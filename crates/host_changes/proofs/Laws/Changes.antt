-- One law for each way that a change ends. The site is the one that the plan bytes read to.
use Prim.Native.Nat.{ℕ, zero, suc, ◌+◌, ◌-◌, ◌*◌, ◌≤◌, ◌<◌}
use mathlib.Core.Path.{◌≡◌, refl, sym, ◌∙◌, ap}
use mathlib.Core.Bool.{Bool, true, false, not, cond}
use mathlib.Core.List.{List, [], ◌∷◌, ◌++◌, append_assoc}
use lib.Dec.{eqb, ltb}
use lib.ListN.{length, take, drop, length-append}
use borrow.Author.Tests.{le-leb, ltb-true}
use borrow.Author.Rules.{part_to_end}
use native.Mathlib.Omega.{arith}
use Rattle.rulings.specs.Outcome.{Ruling, accepted, refused, settled}
use Rattle.site.specs.declared.Site.{Site}
use Rattle.site.specs.declared.Flow.{Flow}
use Rattle.site.specs.Sites.{live, with_flow, without_flow}
use Rattle.tree.specs.Tree.{up, climb, route}
use Rattle.reservations.specs.Reservations.{unfit, first_unfit, periods_judged, along, loads_of}
use Rattle.limits.specs.Limits.{flow_limits}
use Rattle.slices.specs.Put.{put}
use Rattle.slices.specs.Written.{handed}
use Rattle.slices.proofs.Laws.Put.{put_sets, put_then}
use Rattle.slices.proofs.Laws.Stores.{written_short, written_all}
use Rattle.site_check.specs.Check.{passes_of}
use Rattle.site_check.proofs.Laws.{passes_sound, flow_taken}
use Rattle.counters.specs.Blocks.{with_cells, zeros, cleared}
use Rattle.format.specs.Commands.{size_of}
use Rattle.format.specs.Words.{Bytes}
use Rattle.plan_reader.specs.Read.{read_of}
use Rattle.plan_writer.specs.Write.{flow_command, plan_bytes, flow_place}
use Rattle.plan_writer.proofs.Laws.Changed.{plan_with_flow, plan_without_flow, size_with, size_without, place_within, place_live}
use Rattle.plan.proofs.Laws.{plan_short, read_written}
use Rattle.plan.proofs.Laws.Near.{near_accepted, near_check, near_checked}
use Rattle.flow_checks.specs.Flows.{unfit_link, route_for, flow_ruling, number_ruling}
use Rattle.flow_checks.specs.Inner.{flow_ruling_by}
use Rattle.flow_checks.proofs.Laws.Answers.{ruling_by_loads}
use Rattle.admission.specs.Calls.{change, admit_of, release_of}
use Rattle.admission.specs.Words.{Admissible, Releasable}
use Rattle.admission.proofs.Laws.{admits_when, releases_when, admission_judged, release_judged, admitted_passes}
use Rattle.host_answers.specs.Answers.{told, answer_of}
use Rattle.host_answers.proofs.Laws.Told.{told_value, told_no}
use Rattle.host_answers.proofs.Laws.Calls.{read_standing}
use Rattle.host_changes.specs.Changes.{stored_with, rewritten}

-- No link of a way up is above the node that it begins with.
unfit_most : (s : Site) (rate steps : ℕ) (parents : List ℕ) (n : ℕ) → first_unfit s rate (climb steps parents n) ≤ n
unfolding first_unfit climb
unfit_most s rate zero parents n = omega arith
unfit_most s rate (suc steps) parents n = go (unfit_most s rate steps parents (up parents n)) (ltb (up parents n) n) refl
  where
    here : first_unfit s rate (climb steps parents (up parents n)) ≤ up parents n → (b : Bool) → up parents n < n
        → cond b n (first_unfit s rate (climb steps parents (up parents n))) ≤ n
    here above true l = omega arith
    here above false l = omega arith

    go : first_unfit s rate (climb steps parents (up parents n)) ≤ up parents n → (b : Bool) → ltb (up parents n) n ≡ b
        → first_unfit s rate (cond b (n ∷ climb steps parents (up parents n)) []) ≤ n
    go above true e = here above (unfit s rate n) (ltb-true _ _ e)
    go above false e = omega arith

-- So a refusal of a flow has room in an answer.
pub flow_told : (s : Site) (f : Flow) (answer number place : ℕ) → refused number place ≡ flow_ruling s f → answer ≡ answer_of (refused number place)
    → f.number ≤ 255 → f.entry ≤ 255 → told answer ≡ refused number place
unfolding flow_ruling route
flow_told s f answer number place e q l m =
    let near = near_checked 763 (flow_limits s.links 0 f) _
    (near_check 763 (live s f.number) 15 _ _ (omega arith) (λ e. omega arith)
    (near_check 763 (not (eqb (unfit_link s f) 0)) 17 _ _ (omega arith) (λ e. omega (arith, unfit_most s f.rate f.entry s.parents f.entry))
    (near_check 763 (ltb f.deadline (along (periods_judged s) (route_for s f))) 18 _ _ (omega arith) (λ e. omega arith) (near_accepted 763 tt))))
    number place (sym e) in
    told_no answer number place q near.0 (omega (arith, near.1))

-- What an accepted reading tells of its site: check 14 lets it pass, and the bytes are its plan.
pub read_to : (bytes : List ℕ) → Bytes bytes → (s : Site) → accepted s ≡ read_of bytes → (passes_of s ≡ true) × (plan_bytes s ≡ bytes)
read_to bytes small s e = (read_standing bytes small s (sym e), read_written bytes s small (sym e))

-- The checks of a flow by the loads that the reading filled in.
pub judged_by : (s : Site) → passes_of s ≡ true → (loads : List ℕ) → loads ≡ loads_of s → (f : Flow) (r : Ruling) → r ≡ flow_ruling_by loads s f → r ≡ flow_ruling s f
judged_by s sound loads own f r w = rw own at w ∙ ruling_by_loads s f ((passes_sound s).0 sound).formed.shape.parents

-- The calls by the checks of their own, on a site that passes check 14, with 576 counters.
module _ (s : Site) (sound : passes_of s ≡ true) (cs : List ℕ) (counted : length cs ≡ 576) where
  pub admissible : (f : Flow) → accepted tt ≡ flow_ruling s f → Admissible s cs f
  admissible f e = (admits_when s cs f).0 (admission_judged s cs counted sound f ∙ sym e)

  pub admit_no : (f : Flow) (out : List ℕ) (number place : ℕ) → refused number place ≡ flow_ruling s f
      → (refused number place, cs, out) ≡ rewritten (admit_of s cs f) cs out
  unfolding admit_of change settled rewritten
  admit_no f out number place e = rw (admission_judged s cs counted sound f, ← e)

  pub releasable : (n : ℕ) → accepted tt ≡ number_ruling s n → Releasable s cs n
  releasable n e = (releases_when s cs n).0 (release_judged s cs counted sound n ∙ sym e)

  pub release_no : (n : ℕ) (out : List ℕ) (number place : ℕ) → refused number place ≡ number_ruling s n
      → (refused number place, cs, out) ≡ rewritten (release_of s cs n) cs out
  unfolding release_of change settled rewritten
  release_no n out number place e = rw (release_judged s cs counted sound n, ← e)

-- An accepted change by the bytes of its new plan, of which there are `size`: the slice is too short, or they are put.
module _ (s next : Site) (cs new out : List ℕ) (r : Ruling) (yes : r ≡ accepted tt) (passes : passes_of next ≡ true) (size : ℕ) (is : size ≡ length (plan_bytes next))
  where
    change_short : length out < size → (refused 1 0, cs, out) ≡ rewritten (change r next s new cs) cs out
    unfolding change settled rewritten stored_with handed
    change_short l = rw (yes, passes, ← written_short (plan_bytes next) out size is l)

    change_done : (at : ℕ) (bytes ds : List ℕ) → size ≤ length out → (at, bytes) ≡ put (0, out) (plan_bytes next) → ds ≡ new
        → (told size, ds, bytes) ≡ rewritten (change r next s new cs) cs out
    unfolding change settled rewritten stored_with handed
    change_done at bytes ds l q e =
        let low = plan_short next passes in
        let all = put_sets 0 at out (plan_bytes next) bytes (omega arith) q in
        rw (told_value size (omega arith), e, yes, passes, ← written_all (plan_bytes next) out size is bytes l all)

-- The cells of a flow, of 576 counters.
cells_cleared : (n : ℕ) (cs : List ℕ) → n ≤ 63 → length cs ≡ 576 → cleared n cs ≡ with_cells n (zeros 9) cs
unfolding cleared
cells_cleared n cs few counted = rw (le-leb (9 * n + 9) (length cs) (omega arith))

-- A flow that may come to a site, and the plan of that site. m stands for the size of a FLOW, `at` for its place.
module _ (s : Site) (cs : List ℕ) (f : Flow) (a : Admissible s cs f) (plan : List ℕ) (are : plan_bytes s ≡ plan) where
  pub admit_place : (n at : ℕ) → at ≡ flow_place s n → n ≤ 63 → at ≤ length plan
  admit_place n at e few = rw (e, ← are) (place_within s n few)

  admit_size : (m : ℕ) → m ≡ size_of 2 → length plan + m ≡ length (plan_bytes (with_flow s f))
  admit_size m e = rw (e, ← are) (sym (size_with s a.sound.formed.shape f a.good.within.number_most a.free))

  pub admit_few : length plan ≤ 763
  admit_few = rw (← are) (plan_short s ((passes_sound s).1 a.sound))

  admit_bytes : (at : ℕ) (command : List ℕ) → at ≡ flow_place s f.number → command ≡ flow_command f.number f.entry f.rate f.deadline
      → (take at plan ++ command) ++ take (length plan - at) (drop at plan) ≡ plan_bytes (with_flow s f)
  admit_bytes at command p q =
      rw (part_to_end plan at, append_assoc, p, q, ← are) (sym (plan_with_flow s a.sound.formed.shape f a.good.within.number_most a.free))

  pub admit_short : (out : List ℕ) → length out < length plan + size_of 2 → (refused 1 0, cs, out) ≡ rewritten (admit_of s cs f) cs out
  unfolding admit_of
  admit_short out l =
      change_short s (with_flow s f) cs _ out _ ((admits_when s cs f).1 a) (admitted_passes s cs f a) (length plan + size_of 2) (admit_size (size_of 2) refl) l

  -- The front of the old plan, the command and the rest of the old plan are put one after the other.
  pub admit_done : (m at kept added end : ℕ) (command out front more new ds : List ℕ) → m ≡ size_of 2 → at ≡ flow_place s f.number
      → command ≡ flow_command f.number f.entry f.rate f.deadline → length plan + m ≤ length out → (kept, front) ≡ put (0, out) (take at plan)
      → (added, more) ≡ put (kept, front) command → (end, new) ≡ put (added, more) (take (length plan - at) (drop at plan)) → ds ≡ cleared f.number cs
      → (told (length plan + m), ds, new) ≡ rewritten (admit_of s cs f) cs out
  unfolding admit_of
  admit_done m at kept added end command out front more new ds e p q l e₁ e₂ e₃ d =
      let size = admit_size m e in
      let bytes = admit_bytes at command p q in
      let long = ap length bytes in
      let two = put_then 0 out (kept, front) (added, more) (take at plan) command
      (omega (arith, length-append (take at plan ++ command) (take (length plan - at) (drop at plan)))) e₁ e₂ in
      let three = put_then 0 out (added, more) (end, new) (take at plan ++ command) (take (length plan - at) (drop at plan)) (omega arith) two e₃ in
      change_done s (with_flow s f) cs _ out _ ((admits_when s cs f).1 a) (admitted_passes s cs f a) (length plan + m) size end new ds l (rw bytes at three)
      (d ∙ cells_cleared f.number cs a.good.within.number_most a.counted)

-- A flow that may go.
module _ (s : Site) (cs : List ℕ) (n : ℕ) (a : Releasable s cs n) (plan : List ℕ) (are : plan_bytes s ≡ plan) where
  pub release_place : (at : ℕ) → at ≡ flow_place s n → at + size_of 2 ≤ length plan
  release_place at p = rw (p, ← are) (place_live s n a.few a.living)

  release_size : (m : ℕ) → m ≡ size_of 2 → length plan - m ≡ length (plan_bytes (without_flow s n))
  release_size m e = rw (e, ← are) (omega (arith, size_without s a.sound.formed.shape n a.few a.living))

  release_bytes : (m at : ℕ) → m ≡ size_of 2 → at ≡ flow_place s n → take at plan ++ take (length plan - (at + m)) (drop (at + m) plan) ≡ plan_bytes (without_flow s n)
  release_bytes m at e p = rw (part_to_end plan (at + m), e, p, ← are) (sym (plan_without_flow s a.sound.formed.shape n a.few a.living))

  gone : passes_of (without_flow s n) ≡ true
  gone = flow_taken s ((passes_sound s).1 a.sound) n

  pub release_short : (out : List ℕ) → length out < length plan - size_of 2 → (refused 1 0, cs, out) ≡ rewritten (release_of s cs n) cs out
  unfolding release_of
  release_short out l =
      change_short s (without_flow s n) cs _ out _ ((releases_when s cs n).1 a) gone (length plan - size_of 2) (release_size (size_of 2) refl) l

  -- The front of the old plan and what stands behind the FLOW are put one after the other; k is the size of a FLOW as m is.
  pub release_done : (m k at kept end : ℕ) (out front new ds : List ℕ) → m ≡ size_of 2 → k ≡ size_of 2 → at ≡ flow_place s n → length plan - m ≤ length out
      → (kept, front) ≡ put (0, out) (take at plan) → (end, new) ≡ put (kept, front) (take (length plan - (at + k)) (drop (at + k) plan)) → ds ≡ cleared n cs
      → (told (length plan - m), ds, new) ≡ rewritten (release_of s cs n) cs out
  unfolding release_of
  release_done m k at kept end out front new ds e e' p l e₁ e₂ d =
      let size = release_size m e in
      let bytes = release_bytes k at e' p in
      let long = ap length bytes in
      let two = put_then 0 out (kept, front) (end, new) (take at plan) (take (length plan - (at + k)) (drop (at + k) plan)) (omega arith) e₁ e₂ in
      change_done s (without_flow s n) cs _ out _ ((releases_when s cs n).1 a) gone (length plan - m) size end new ds l (rw bytes at two)
      (d ∙ cells_cleared n cs a.few a.counted)
