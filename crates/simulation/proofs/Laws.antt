-- What is proved of a slot and a start: when each is accepted, which check refuses it, what each leaves, and what a slot is without check 14. The module
-- named here holds the lemmas.
pub mod Answers
use Prim.Native.Nat.{ℕ, ◌+◌, ◌<◌}
use mathlib.Core.Path.{◌≡◌, refl, sym}
use mathlib.Core.Bool.{Bool, true, false, not, cond, ◌&&◌}
use mathlib.Core.List.{List}
use mathlib.Core.Logic.{◌↔◌}
use lib.Dec.{eqb, ltb}
use lib.ListN.{length, get_or}
use borrow.Author.Tests.{le-ltb, eq-eqb, eqb-true, ltb-false, not-false}
use native.Mathlib.Omega.{arith}
use Rattle.rulings.specs.Outcome.{Ruling, accepted, refused, checked, none, Ruled, nothing}
use Rattle.lists.specs.Lists.{total, joined}
use Rattle.rulings.proofs.Laws.Outcomes.{past, checked_pass, checked_past, ruled_test, ruled_end}
use Rattle.lists.proofs.Laws.Search.{first_none}
use Rattle.site.specs.declared.Site.{Site}
use Rattle.site.specs.Sites.{live}
use Rattle.site_check.specs.Check.{passes_of, call_fault}
use Rattle.site_check.specs.Words.{Sound}
use Rattle.site_check.proofs.Laws.{call_when, call_first, passes_sound}
use Rattle.simulation.proofs.Laws.Answers.{slot_unlisted, slot_call}
use Rattle.rulings.proofs.Laws.Choices.{not_when}
use Rattle.counters.specs.Blocks.{cells_of, zeros}
use Rattle.counters.proofs.Laws.{block_zeros}
use Rattle.moves.specs.Hops.{Service}
use Rattle.moves.specs.Moves.{recounted, cells_after, advance_of}
use Rattle.slot_checks.specs.Checks.{overflows, first_overflow, unexpected, first_unexpected, arrivals_ruling, advance_ruling}
use Rattle.simulation.specs.Slot.{slot_ruling, slot_of, start_ruling, start_of}
use Rattle.slot_checks.specs.Words.{Overflows, Unexpected}
use Rattle.simulation.specs.Words.{Playable, slot_checks, start_checks}
use Rattle.slot_checks.proofs.Laws.Answers.{arrivals_pass}
use Rattle.slot_checks.proofs.Laws.{overflows_when, unexpected_when, lowest_first}
use Rattle.moves.proofs.Laws.{recounted_accepted, recounted_refused}

-- A slot is refused by the first check that fails, with its place, and accepted where none fails.
pub slots_first : (s : Site) (cs xs : List ℕ) (o : Ruling) → (slot_ruling s cs xs ≡ o) ↔ Ruled nothing (slot_checks s cs xs) o
unfolding slot_ruling arrivals_ruling first_overflow first_unexpected
slots_first s cs xs o =
    ruled_test nothing o (not (eqb (length xs) 64)) 1 0 _ _ _ (not_when (eqb (length xs) 64) _ (eqb-true _ _, eq-eqb _ _))
    (λ _. call_first nothing o _ _ s cs
    (lowest_first (overflows s cs xs) (Overflows s cs xs) (overflows_when s cs xs) o 19 _ _
    (lowest_first (unexpected s xs) (Unexpected s xs) (unexpected_when s xs) o 20 none _ (ruled_end nothing o tt tt (λ b w. refl)))))

-- So is a start.
pub starts_first : (s : Site) (cs : List ℕ) (o : Ruling) → (start_ruling s cs ≡ o) ↔ Ruled nothing (start_checks s cs) o
unfolding start_ruling
starts_first s cs o = call_first nothing o _ none s cs (ruled_end nothing o tt tt (λ b w. refl))

-- A slot is accepted just when it is as the words say.
pub slots_when : (s : Site) (cs xs : List ℕ) → (slot_ruling s cs xs ≡ accepted tt) ↔ Playable s cs xs
unfolding slot_ruling arrivals_ruling first_overflow first_unexpected overflows unexpected
slots_when s cs xs = (
  λ e. let a = past (not (eqb (length xs) 64)) 1 0 _ e in
      let b = checked_past (call_fault s cs) _ a.1 in
      let c = past (ltb (first_overflow s cs xs) 64) 19 _ _ b.1 in
      let d = past (ltb (first_unexpected s xs) 64) 20 _ _ c.1 in
      let call = (call_when s cs).0 b.0 in
      record {
        listed = eqb-true _ _ (not-false _ a.0);
        counted = call.0;
        sound = call.1;
        fits = λ n l on. ltb-false _ _ (rw on at ((first_none (overflows s cs xs) 64).0 (ltb-false _ _ c.0) n l));
        expected = λ n l off. let z = ltb-false 0 (get_or xs n 0) (rw off at ((first_none (unexpected s xs) 64).0 (ltb-false _ _ d.0) n l)) in omega arith;
      },
  λ w. rw (eq-eqb _ _ w.listed, (call_when s cs).1 (w.counted, w.sound), checked_pass 0 _ refl)
      (sym (arrivals_pass s cs xs
      ((first_none (overflows s cs xs) 64).1 (λ n l. fit w n l (live s n) refl))
      ((first_none (unexpected s xs) 64).1 (λ n l. known w n l (live s n) refl)))),
)
  where
    fit : Playable s cs xs → (n : ℕ) → n < 64 → (b : Bool) → live s n ≡ b → b && ltb 4294967295 (total (cells_of n cs) + get_or xs n 0) ≡ false
    fit w n l true q = le-ltb _ _ (w.fits n l q)
    fit w n l false q = refl

    known : Playable s cs xs → (n : ℕ) → n < 64 → (b : Bool) → live s n ≡ b → not b && ltb 0 (get_or xs n 0) ≡ false
    known w n l true q = refl
    known w n l false q = le-ltb 0 (get_or xs n 0) (omega (arith, w.expected n l q))

-- A start is accepted just when there are 576 counters and check 14 lets the site pass.
pub starts_when : (s : Site) (cs : List ℕ) → (start_ruling s cs ≡ accepted tt) ↔ ((length cs ≡ 576) × Sound s)
unfolding start_ruling
starts_when s cs = (
  λ e. (call_when s cs).0 (checked_past (call_fault s cs) _ e).0,
  λ w. checked_pass (call_fault s cs) _ ((call_when s cs).1 w),
)

module _ (s : Site) (cs ds : List ℕ) where
  pub slot_accepted : (v : Service) (xs : List ℕ) (t : ℕ) → (accepted tt, ds) ≡ slot_of v s cs xs t
      → Playable s cs xs × (ds ≡ joined (cells_after v s cs xs t) 64 0)
  unfolding slot_of
  slot_accepted v xs t e = let w = recounted_accepted _ _ cs ds e in ((slots_when s cs xs).0 w.0, w.1)

  pub slot_refused : (v : Service) (xs : List ℕ) (t number place : ℕ) → (refused number place, ds) ≡ slot_of v s cs xs t → ds ≡ cs
  unfolding slot_of
  slot_refused v xs t number place e = recounted_refused _ _ cs ds number place e

  pub start_accepted : (accepted tt, ds) ≡ start_of s cs → (length cs ≡ 576) × Sound s × (ds ≡ zeros 576)
  unfolding start_of
  start_accepted e = let w = recounted_accepted _ _ cs ds e in let c = (starts_when s cs).0 w.0 in (c.0, c.1, w.1)

  pub start_refused : (number place : ℕ) → (refused number place, ds) ≡ start_of s cs → ds ≡ cs
  unfolding start_of
  start_refused number place e = recounted_refused _ _ cs ds number place e

pub start_cells : (n : ℕ) → n < 64 → cells_of n (zeros 576) ≡ zeros 9
unfolding cells_of
start_cells n l = block_zeros 9 n 576 (omega arith)

-- On a site that passes check 14 a slot is what it is where that check is not asked, for every service, and so is a lookup.
pub slot_advances : (v : Service) (s : Site) (cs xs : List ℕ) (t : ℕ) → passes_of s ≡ true → slot_of v s cs xs t ≡ advance_of v s cs xs t
unfolding slot_of advance_of slot_ruling advance_ruling call_fault checked
slot_advances v s cs xs t e = rw e (go (eqb (length cs) 576))
  where
    go : (b : Bool)
        → recounted
        (cond (not (eqb (length xs) 64)) (refused 1 0)
        (cond (eqb (cond (not b) 1 0) 0) (arrivals_ruling s cs xs) (refused (cond (not b) 1 0) 0)))
        (joined (cells_after v s cs xs t) 64 0) cs
        ≡ recounted
        (cond (not (eqb (length xs) 64)) (refused 1 0) (cond (not b) (refused 1 0) (arrivals_ruling s cs xs)))
        (joined (cells_after v s cs xs t) 64 0) cs
    go true = refl
    go false = refl

-- So is a slot that passes the checks of a call.
pub slot_done : (v : Service) (s : Site) (cs xs : List ℕ) (t : ℕ) → 0 ≡ call_fault s cs → advance_of v s cs xs t ≡ slot_of v s cs xs t
slot_done v s cs xs t calls = sym (slot_advances v s cs xs t ((passes_sound s).1 ((call_when s cs).0 (sym calls)).1))

-- What `slot` is proved by.
pub ruleset slot_rules = (slot_unlisted, slot_call, slot_done)
