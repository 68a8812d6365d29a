-- What is proved of lines carried out: a promise settles the answer and the state left, and so each kind of line comes to what is defined of it. The module
-- named here says that no answer is longer than 8,192 bytes.
pub mod Short
use Prim.Native.Nat.{ℕ}
use mathlib.Core.Path.{◌≡◌, refl, ◌∙◌, ap}
use mathlib.Core.Bool.{true}
use mathlib.Core.List.{List}
use Rattle.rulings.specs.Outcome.{Ruling}
use Rattle.moves.specs.Hops.{Service, own}
use Rattle.site.specs.declared.Site.{Site}
use Rattle.site_check.specs.Check.{passes_of}
use Rattle.plan_writer.specs.Write.{plan_bytes}
use Rattle.plan.proofs.Laws.{written_read}
use Rattle.text.specs.Put.{puts, text_of}
use Rattle.site_report.specs.Report.{report_of, report_lines}
use Rattle.plan_listing.specs.Listing.{listing_of, listing_lines}
use Rattle.request_text.specs.declared.Question.TheVariants.{Show, Typed}
use Rattle.report_lines.specs.Lines.{verdict_text}
use Rattle.request_text.specs.declared.Call.{Call}
use Rattle.request_text.specs.declared.Question.{Question}
use Rattle.request_text.specs.declared.Line.TheVariants.{PassedOver, Makes, Asks, Malformed}
use Rattle.call_text.specs.declared.Asked.{Asked}
use Rattle.guarantee.specs.Runs.{slot, admit, release, start, State, Promise, called}
use Rattle.guarantee.specs.Runs as runs
use Rattle.line_answers.specs.Steps.{call_of, as_line, question_text, malformed_text, carried_out, answered_to, CarriedAs}

-- A slot and a start answer and leave counters; the site stays.
recounted_once : (a : Ruling) (σ σ' : State) (w : Ruling × List ℕ) → (a, σ'.counters) ≡ w → σ'.site ≡ σ.site
    → ◌≡◌ {A = Ruling × State} (a, σ') (w.0, record { site = σ.site; counters = w.1 })
recounted_once a σ σ' w e stays =
    let kept : ◌≡◌ {A = Ruling × State} (a, σ') (a, record { site = σ.site; counters = σ'.counters })
    = ap (λ (s : Site). (a, record { site = s; counters = σ'.counters })) stays in
    kept ∙ ap (λ (q : Ruling × List ℕ). (q.0, record { site = σ.site; counters = q.1 })) e

-- What a call answers and leaves is settled by its promise.
pub promise_once : (v : Service) (c : runs.Call) (σ σ' : State) (a : Ruling) → Promise v c σ a σ' → ◌≡◌ {A = Ruling × State} (a, σ') (called v c σ)
unfolding Promise called
promise_once v (slot t xs) σ σ' a p = recounted_once a σ σ' _ p.0 p.1
promise_once v (admit f) σ σ' a p = ap (λ (q : Ruling × Site × List ℕ). (q.0, record { site = q.1; counters = q.2 })) p
promise_once v (release n) σ σ' a p = ap (λ (q : Ruling × Site × List ℕ). (q.0, record { site = q.1; counters = q.2 })) p
promise_once v start σ σ' a p = recounted_once a σ σ' _ p.0 p.1

module _ (asked : Asked) (σ : State) (s : ℕ × List ℕ) where
  pub passed_over : asked.line ≡ PassedOver → CarriedAs (answered_to asked σ) σ s s
  unfolding answered_to carried_out puts
  passed_over e = rw e (refl, refl)

  pub call_made : (σ' : State) (t : ℕ × List ℕ) (call : Call) (a : Ruling) → asked.line ≡ Makes call
      → Promise own (call_of call asked.arrivals) σ a σ' → t ≡ puts s (as_line (verdict_text a)) → CarriedAs (answered_to asked σ) σ' s t
  unfolding answered_to carried_out
  call_made σ' t call a e p q = rw (e, ← promise_once own (call_of call asked.arrivals) σ σ' a p) (refl, q)

  pub question_asked : (t : ℕ × List ℕ) (question : Question) → asked.line ≡ Asks question
      → t ≡ puts s (question_text question σ.site σ.counters) → CarriedAs (answered_to asked σ) σ s t
  unfolding answered_to carried_out
  question_asked t question e q = rw e (refl, q)

  pub nothing_known : (t : ℕ × List ℕ) → asked.line ≡ Malformed → t ≡ puts s malformed_text → CarriedAs (answered_to asked σ) σ s t
  unfolding answered_to carried_out
  nothing_known t e q = rw e (refl, q)

-- On a site that passes check 14, `show` answers what `slotplan` prints of the site's plan bytes, and `typed` what `listing` prints of them.
module _ (s : Site) (e : passes_of s ≡ true) where
  pub show_reported : (counters : List ℕ) → text_of (question_text Show s counters) ≡ report_of (plan_bytes s)
  unfolding question_text report_of report_lines
  show_reported counters = rw (written_read s e).1

  pub typed_listed : (counters : List ℕ) → text_of (question_text Typed s counters) ≡ listing_of (plan_bytes s)
  unfolding question_text listing_of listing_lines
  typed_listed counters = rw (written_read s e).1
