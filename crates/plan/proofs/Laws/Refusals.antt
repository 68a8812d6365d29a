-- A plan's form is accepted and refused just as the words say.
use Prim.Native.Nat.{ℕ, ◌≤◌}
use mathlib.Core.Path.{◌≡◌, refl, sym, ◌∙◌, ap}
use mathlib.Core.List.{List, [], ◌∷◌}
use mathlib.Core.Logic.{◌↔◌}
use lib.ListN.{drop, take-append-drop}
use native.Mathlib.Omega.{arith}
use Rattle.rulings.specs.Outcome.{accepted, refused}
use Rattle.site.specs.declared.Site.{Site}
use Rattle.site.specs.Sites.{with_schedule}
use Rattle.site_check.specs.Words.{Unscheduled}
use Rattle.format.specs.Words.{Bytes}
use Rattle.format.proofs.Laws.Reading.{read_on, Stop}
use Rattle.plan_commands.specs.Commands.{Draft, plans, decode}
use Rattle.plan_writer.specs.Write.{plan_bytes}
use Rattle.plan.specs.Words.{InForm, Begun, command_checks, FormFails, no_end, command, more}
use Rattle.plan.proofs.Laws.Drafts.{NextOf, drafted_next}
use Rattle.plan.proofs.Laws.FromBytes.{Reached, reached_begun, stops}
use Rattle.plan.proofs.Laws.FromSites.{zeros, begun_read}
use Rattle.plan.proofs.Laws.Faults.{fault_first, first_numbers}
use Rattle.plan.proofs.Laws.Files.{InWords, Came, Goes, file_accepted, file_fails}

-- A site without a schedule.
bare_same : (s : Site) → Unscheduled s → with_schedule s zeros zeros ≡ s
unfolding with_schedule
bare_same s b = λ i. record {
  links = s.links;
  parents = s.parents;
  capacities = s.capacities;
  gaps = s.gaps;
  offsets = sym b.offsets i;
  periods = sym b.periods i;
  states = s.states;
  entries = s.entries;
  rates = s.rates;
  deadlines = s.deadlines;
}

-- The nodes and flows that a draft has, and what its next number is to them.
abbrev site_of : Draft → Site
site_of d = d.site

abbrev Ready : Draft → Type 0
Ready d = NextOf d.site d.next

module _ (bytes : List ℕ) where
  in_words : InWords plans bytes site_of site_of (command_checks bytes) Ready
  in_words = record { ends = λ size at d. refl; first = fault_first bytes; some = λ at s n f. (first_numbers bytes at s n f).0 }

  came : Bytes bytes → Came plans bytes (decode bytes) site_of site_of (Begun bytes) (command_checks bytes) Ready in_words
  came small = go (stops bytes small)
    where
      go : (m : ℕ) × (d : Draft) × Reached bytes m d × Stop plans bytes m d
          → Came plans bytes (decode bytes) site_of site_of (Begun bytes) (command_checks bytes) Ready in_words
      go (m, d, r, stop) = (m, d, reached_begun bytes m d r, drafted_next d r.drafted, r.here, stop)

  -- Behind commands that passed their checks the reading is as if it had begun with what they say.
  goes : (at : ℕ) (s : Site) → Begun bytes at s → Goes plans bytes (decode bytes) site_of site_of (Begun bytes) (command_checks bytes) Ready in_words at s
  goes at s b =
      let w = begun_read bytes at s b.formed b.within b.are in
      (record { site = s; next = w.0 }, refl, w.2, w.1 ∙ ap (λ (t : Site). read_on plans bytes at (record { site = t; next = w.0 })) (bare_same s b.bare))

  pub decode_fails : (number place : ℕ) → Bytes bytes → (decode bytes ≡ refused number place) ↔ FormFails bytes number place
  decode_fails number place small = file_fails plans bytes _ site_of site_of _ _ Ready in_words number place (came small) goes

  -- What the form of the bytes is accepted as is what they say.
  pub decode_form : Bytes bytes → (s : Site) → decode bytes ≡ accepted s → InForm bytes s
  unfolding plan_bytes
  decode_form small s e = go (file_accepted plans bytes _ site_of site_of _ _ Ready in_words (came small) s e)
    where
      go : (m : ℕ) × (d : Draft) × Begun bytes m d.site × (d.site ≡ s) × (drop m bytes ≡ 255 ∷ []) → InForm bytes s
      go (m, d, b, same, rest) =
          rw (← same) (record {
            formed = b.formed;
            bare = b.bare;
            are = sym (take-append-drop m bytes) ∙ rw (b.are, rest);
          })

-- What it is refused with has a number up to 10.
pub form_numbers : (bytes : List ℕ) (number place : ℕ) → FormFails bytes number place → number ≤ 10
form_numbers bytes number place (no_end s b p n) = omega arith
form_numbers bytes number place (command s b l t f) = omega (arith, first_numbers bytes place s number f)
form_numbers bytes number place (more s at b t p l n) = omega arith
