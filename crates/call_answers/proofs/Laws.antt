-- What is proved of the answers: which of their forms a site, its counters and a writing get.
use Prim.Native.Nat.{ℕ, ◌≤◌, ◌<◌}
use mathlib.Core.Path.{◌≡◌, refl, ◌∙◌, ap}
use mathlib.Core.Bool.{Bool, true, false, cond}
use mathlib.Core.List.{List, ◌++◌}
use mathlib.Core.Logic.{inl, inr}
use lib.Dec.{ltb}
use lib.ListN.{length, get_or, drop, get_or-eq_default, length-append}
use lib.Seq.{take_at}
use borrow.Author.Tests.{le-leb, eqb-true, ltb-true}
use native.Mathlib.Omega.{arith}
use Rattle.rulings.specs.Outcome.{Outcome, accepted, refused}
use Rattle.lists.proofs.Laws.Search.{lt_or_le}
use Rattle.site.specs.declared.Site.{Site}
use Rattle.site.specs.Sites.{live}
use Rattle.site_check.specs.Check.{passes_of, written_if}
use Rattle.site_check.proofs.Laws.Check.{passes_few}
use Rattle.format.specs.Commands.{schedule_size}
use Rattle.schedule_writer.specs.Write.{schedule_of, schedule_bytes}
use Rattle.plan_writer.specs.Write.{plan_bytes}
use Rattle.slices.specs.Written.{written, handed}
use Rattle.schedule_writer.proofs.Laws.Write.{links_few, schedule_size_lem}
use Rattle.plan.proofs.Laws.{plan_short}
use Rattle.hexadecimal.specs.Hexadecimal.{hex_text}
use Rattle.report_lines.specs.Lines.{refusal}
use Rattle.call_answers.specs.Answers.{plan_text, schedule_shown}
use Rattle.call_answers.specs.Inner.{front_text, written_shown}

-- A live flow's number is one of 64.
pub live_below : (s : Site) (n : ℕ) → length s.states ≡ 64 → live s n ≡ true → n < 64
unfolding live
live_below s n long e = elim (lt_or_le n 64) [
  | inl l ↦ l
  | inr m ↦ absurd (omega (arith, get_or-eq_default s.states 0 {n = n} (omega arith), eqb-true (get_or s.states n 0) 1 e))
]

abbrev shown : Outcome ℕ × List ℕ → List (List ℕ)
shown (o, bytes) = written_shown o bytes

-- A writing into a slice with room for all bytes shows these, or 14.
pub writing_shown : (p : Bool) (bytes out new : List ℕ) (o : Outcome ℕ) → (p ≡ true → length bytes ≤ length out) → (o, new) ≡ handed p bytes out
    → written_shown o new ≡ cond p (hex_text bytes) (refusal 14 0)
unfolding handed written written_shown front_text
writing_shown p bytes out new o room e =
    ap shown e ∙ go p room
  where
    wrote : length bytes ≤ length out → (b : Bool) → ltb (length out) (length bytes) ≡ b
        → shown (cond b (refused 1 0, out) (accepted (length bytes), bytes ++ drop (length bytes) out)) ≡ hex_text bytes
    wrote l true q = absurd (omega (arith, ltb-true (length out) (length bytes) q))
    wrote l false q =
        rw (
          le-leb (length bytes) (length (bytes ++ drop (length bytes) out)) (omega (arith, length-append bytes (drop (length bytes) out))),
          take_at bytes (drop (length bytes) out) (length bytes) refl,
        )

    go : (a : Bool) → (a ≡ true → length bytes ≤ length out)
        → shown (cond a (cond (ltb (length out) (length bytes)) (refused 1 0, out) (accepted (length bytes), bytes ++ drop (length bytes) out)) (refused 14 0, out))
        ≡ cond a (hex_text bytes) (refusal 14 0)
    go true l = wrote (l refl) (ltb (length out) (length bytes)) refl
    go false l = refl

-- A slice of 763 bytes has room for every plan, one of 379 for every schedule.
pub plan_shown : (s : Site) (out new : List ℕ) (o : Outcome ℕ) → length out ≡ 763 → (o, new) ≡ written_if s (plan_bytes s) out
    → written_shown o new ≡ plan_text s
unfolding plan_text
plan_shown s out new o long e = writing_shown (passes_of s) (plan_bytes s) out new o (λ q. omega (arith, plan_short s q)) e

pub schedule_shown_lem : (s : Site) (out new : List ℕ) (o : Outcome ℕ) → length out ≡ 379 → (o, new) ≡ written_if s (schedule_bytes (schedule_of s)) out
    → written_shown o new ≡ schedule_shown s
unfolding schedule_shown schedule_of
schedule_shown_lem s out new o long e =
    writing_shown (passes_of s) (schedule_bytes (schedule_of s)) out new o
    (λ q. omega (arith, schedule_size_lem (schedule_of s) (schedule_size 17) refl, links_few (schedule_of s) (schedule_size 17) refl (passes_few s q))) e
