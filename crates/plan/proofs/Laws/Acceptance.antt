-- A reading in its two steps: the form of the bytes, and then the judgement of what they say.
use Prim.Native.Nat.{ℕ, ◌+◌, ◌≤◌}
use mathlib.Core.Path.{◌≡◌, refl, ◌∙◌, ap}
use mathlib.Core.List.{List, [], ◌∷◌}
use mathlib.Core.Logic.{◌↔◌}
use lib.ListN.{length, length-append}
use lib.Seq.{take_at, get_or-append_seam}
use native.Mathlib.Omega.{arith}
use Rattle.rulings.specs.Outcome.{Outcome, accepted, refused}
use Rattle.rulings.proofs.Laws.Outcomes.{refused_not}
use Rattle.site.specs.declared.Site.{Site}
use Rattle.site.specs.Sites.{live, with_schedule}
use Rattle.schedule.specs.Schedule.{scheduled}
use Rattle.judgement.specs.Judge.{judge_of}
use Rattle.judgement.proofs.Laws.{judge_gives, judge_numbers}
use Rattle.judgement.proofs.Laws.Judge.{judge_bare}
use Rattle.site_check.specs.Words.{Formed}
use Rattle.format.specs.Words.{Bytes}
use Rattle.plan_commands.specs.Commands.{plans, decode}
use Rattle.plan_reader.specs.Read.{judge_form, read_of}
use Rattle.format.proofs.Laws.Reading.{read_end, ended_last}
use Rattle.plan_writer.specs.Write.{node_bytes, flow_bytes, flow_if_live, command_bytes, plan_bytes}
use Rattle.plan.specs.Words.{InForm}
use Rattle.plan.proofs.Laws.FromSites.{zeros, begun_read}
use Rattle.plan.proofs.Laws.Refusals.{decode_form, decode_fails, form_numbers}

-- The bytes of nodes and flows in form are read to them.
pub decode_plan : (s : Site) → Formed s → decode (plan_bytes s) ≡ accepted (with_schedule s zeros zeros)
unfolding plan_bytes with_schedule
decode_plan s g =
    let at = length (command_bytes s) in
    let long : length (plan_bytes s) ≡ at + 1 = length-append (command_bytes s) (255 ∷ []) in
    let w = begun_read (plan_bytes s) at s g (omega arith) (take_at (command_bytes s) (255 ∷ []) at refl) in
    w.1 ∙ read_end plans (plan_bytes s) at _ (omega arith) (get_or-append_seam (command_bytes s) 255 [] 0)
    ∙ ended_last (length (plan_bytes s)) at _ (omega arith)

pub read_plan_lem : (s : Site) → Formed s → read_of (plan_bytes s) ≡ judge_of s
unfolding read_of judge_form
read_plan_lem s g = rw (decode_plan s g) (judge_bare s _ _)

-- A writer of plan bytes does not look at the schedule.
pub plan_scheduled : (s : Site) → plan_bytes (scheduled s) ≡ plan_bytes s
unfolding plan_bytes command_bytes node_bytes flow_if_live flow_bytes live scheduled with_schedule
plan_scheduled s = refl

module _ (bytes : List ℕ) (small : Bytes bytes) where
  -- What is read has come through both steps.
  pub read_form : (t : Site) → read_of bytes ≡ accepted t → (s : Site) × InForm bytes s × (judge_of s ≡ accepted (scheduled s)) × (t ≡ scheduled s)
  unfolding read_of judge_form
  read_form t e = go (decode bytes) refl e
    where
      go : (r : Outcome Site) → decode bytes ≡ r → judge_form r ≡ accepted t
          → (s : Site) × InForm bytes s × (judge_of s ≡ accepted (scheduled s)) × (t ≡ scheduled s)
      go (accepted s) d q = let own = judge_gives s t q in (s, decode_form bytes small s d, q ∙ ap accepted own, own)
      go (refused number place) d q = absurd (refused_not _ refl q)

  -- A refusal with a number above 10 is one of the judgement, and one up to 10 is one of the form.
  pub read_judged : (number place : ℕ) → 11 ≤ number
      → (read_of bytes ≡ refused number place) ↔ ((s : Site) × InForm bytes s × (judge_of s ≡ refused number place))
  unfolding read_of judge_form
  read_judged number place l = (
    λ e. go (decode bytes) refl e,
    λ w. rw w.1.are (read_plan_lem w.0 w.1.formed ∙ w.2),
  )
    where
      go : (r : Outcome Site) → decode bytes ≡ r → judge_form r ≡ refused number place
          → (s : Site) × InForm bytes s × (judge_of s ≡ refused number place)
      go (accepted s) d q = (s, decode_form bytes small s d, q)
      go (refused m p) d q = let n : m ≡ number = cc in absurd (omega (arith, form_numbers bytes m p ((decode_fails bytes m p small).0 d)))

  pub read_refused : (number place : ℕ) → ((read_of bytes ≡ refused number place) × (number ≤ 10)) ↔ (decode bytes ≡ refused number place)
  unfolding read_of judge_form
  read_refused number place = (
    λ w. go (decode bytes) refl w.0 w.1,
    λ e. (ap judge_form e, form_numbers bytes number place ((decode_fails bytes number place small).0 e)),
  )
    where
      go : (r : Outcome Site) → decode bytes ≡ r → judge_form r ≡ refused number place → number ≤ 10 → decode bytes ≡ refused number place
      go (accepted s) d q l = absurd (omega (arith, judge_numbers s number place q))
      go (refused m p) d q l = d ∙ q
