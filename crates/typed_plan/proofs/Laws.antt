-- What is proved of typed plans. The modules named here hold the lemmas.
pub mod Plans
pub mod Listing
use Prim.Native.Nat.{ℕ, ◌≤◌, ◌<◌}
use mathlib.Core.Path.{◌≡◌, refl, sym, ◌∙◌}
use mathlib.Core.Bool.{Bool, true, false, cond}
use mathlib.Core.List.{List, ◌++◌}
use mathlib.Core.Logic.{◌⊎◌, inl}
use lib.Dec.{ltb}
use lib.ListN.{length, drop}
use borrow.Author.Tests.{lt-ltb, le-ltb}
use native.Mathlib.Omega.{arith}
use Rattle.rulings.specs.Outcome.{Outcome, accepted, refused}
use Rattle.site.specs.declared.Site.{Site}
use Rattle.format.specs.Words.{Bytes}
use Rattle.plan_reader.specs.Read.{read_of}
use Rattle.plan_listing.specs.Listing.{listing_of}
use Rattle.plan_listing.proofs.Laws.Short.{listing_short}
use Rattle.line_words.specs.Parts.{lines_of}
use Rattle.slices.specs.Written.{written}
use Rattle.typed_plan.specs.Assemble.{Assembled, Length, Short}
use Rattle.typed_plan.specs.Assemble.{NoPlan, assembling, plan_typed, first_wrong, stored_plan, assembled_of}
use Rattle.typed_plan.proofs.Laws.Plans.{judged}
use Rattle.typed_plan.proofs.Laws.Listing.{listing_plan, listing_right}

-- What the program `listing` prints of an accepted plan, given to `assemble`, makes the same bytes: they stand at the front of every slice that has room
-- for them, and the rest of the slice stays.
pub listing_assembles : (bytes : List ℕ) → Bytes bytes → (s : Site) → read_of bytes ≡ accepted s → (out : List ℕ) → length bytes ≤ length out
    → assembled_of (listing_of bytes) out ≡ (Length (length bytes), bytes ++ drop (length bytes) out)
unfolding stored_plan
listing_assembles bytes small s e out room =
    judged (listing_of bytes) out (omega (arith, listing_short bytes small)) _ (sym (listing_right bytes small s e 1 (Length (length (plan_typed (listing_of bytes))))))
    ∙ rw (listing_plan bytes small s e, le-ltb _ _ room)

-- An answer of `assemble` and the slice that it leaves, in the terms of 01's tables.
abbrev pub Told : Type 0
Told = (Outcome ℕ ⊎ NoPlan) × List ℕ

abbrev pub told : Assembled × List ℕ → Told
told (a, out) = (assembling a, out)

-- Of a text that has a plan, `assemble` is a writer as 01 has it.
module _ (text out : List ℕ) (few : length text ≤ 65535) (right : (other : Assembled) → first_wrong (lines_of text) 1 other ≡ other) where
  pub assembled_written : told (assembled_of text out) ≡ (inl (written (plan_typed text) out).0, (written (plan_typed text) out).1)
  unfolding stored_plan written assembling
  assembled_written = rw (judged text out few _ (sym (right (Length n)))) (go (ltb (length out) n))
    where
      n : ℕ
      n = length (plan_typed text)

      new : List ℕ
      new = plan_typed text ++ drop n out

      wrote : Bool → Outcome ℕ × List ℕ
      wrote b = cond b (refused 1 0, out) (accepted n, new)

      go : (b : Bool) → told (cond b (Short, out) (Length n, new)) ≡ (inl (wrote b).0, (wrote b).1)
      go true = refl
      go false = refl

  -- A slice without room for the plan gives 1, place 0, and stays.
  pub assembled_no_room : length out < length (plan_typed text) → told (assembled_of text out) ≡ (inl (refused 1 0), out)
  unfolding written
  assembled_no_room short = assembled_written ∙ rw (lt-ltb _ _ short)
