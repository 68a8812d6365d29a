-- The sender that a lookup gives is the one child that sends; when a lookup is accepted, and which check refuses it.
pub mod Answers
use Prim.Native.Nat.{ℕ, ◌≤◌, ◌<◌}
use mathlib.Core.Path.{◌≡◌, refl, sym, ◌∙◌}
use mathlib.Core.Bool.{Bool, true, false, not, false≢true, and-eq-true_iff}
use mathlib.Core.Logic.{◌⊎◌, inl, inr, ⊎_elim, ◌↔◌}
use lib.Dec.{eqb, ltb}
use borrow.Author.Tests.{lt-ltb, eq-eqb, eqb-true, ltb-true, ltb-false, not-false}
use native.Mathlib.Decide.{ℕ_discrete}
use native.Mathlib.Omega.{arith}
use Rattle.rulings.specs.Outcome.{Outcome, accepted, refused, none, Ruled}
use Rattle.lists.specs.Search.{last}
use Rattle.rulings.proofs.Laws.Outcomes.{past, ruled_test, ruled_end}
use Rattle.lists.proofs.Laws.Search.{lt_or_le, last_passes, last_above, last_is}
use Rattle.site.specs.declared.Site.{Site}
use Rattle.site.specs.Sites.{empty_site, used}
use Rattle.tree.specs.Tree.{of_link}
use Rattle.schedule.proofs.Laws.Slots.{sends_in}
use Rattle.site_check.specs.Check.{passes_of}
use Rattle.site_check.specs.Words.{Sound}
use Rattle.site_check.proofs.Laws.{passes_sound, site_first, siblings_apart}
use Rattle.site_check.proofs.Laws.Check.{passes_few}
use Rattle.site_check.proofs.Laws.Empty.{empty_passes}
use Rattle.sender.specs.Sender.{child_sends, sending_child, lookup_of, sender_of}
use Rattle.sender.specs.Words.{ChildSends, NoneSends, SendingChild, sender_checks}
use Rattle.sender.proofs.Laws.Answers.{lookup_found, sender_passes}

-- A child's test in words.
sends_when : (s : Site) (p t n : ℕ) → (child_sends s p t n ≡ true) ↔ ChildSends s p t n
unfolding child_sends
sends_when s p t n = (
  λ e. let w = (and-eq-true_iff (eqb (of_link s.parents n) p) _).0 e in (eqb-true _ _ w.0, (sends_in s n t).0 w.1),
  λ w. rw (eq-eqb (of_link s.parents n) p w.0, (sends_in s n t).1 w.1),
)

module _ (s : Site) (e : passes_of s ≡ true) (p t : ℕ) where
  -- No slot is one of two children of a parent.
  pub sender_one : (n m : ℕ) → ChildSends s p t n → ChildSends s p t m → n ≡ m
  sender_one n m a b =
      elim (ℕ_discrete n m) [
        | yes q ↦ q
        | no d ↦ absurd (siblings_apart s e n m t d (a.0 ∙ sym b.0) ((sends_in s n t).1 a.1) ((sends_in s m t).1 b.1))
      ]

  -- The search gives a child just when it sends, and 0 just when none does.
  pub child_when : (c : ℕ) → (sending_child s p t ≡ c) ↔ SendingChild s p t c
  unfolding sending_child used
  child_when c = (λ q. rw (← q) (there (lt_or_le 0 (sending_child s p t))), ⊎_elim back none)
    where
      there : (0 < sending_child s p t) ⊎ (sending_child s p t ≤ 0) → SendingChild s p t (sending_child s p t)
      there (inl l) = inl ((sends_when s p t _).0 (last_passes (child_sends s p t) (used s.links) l))
      there (inr l) = inr (
        omega arith,
        λ n w. false≢true (sym (last_above (child_sends s p t) (used s.links) n (omega (arith, w.1.0)) (omega (arith, w.1.1, passes_few s e)))
            ∙ (sends_when s p t n).1 w),
      )

      back : ChildSends s p t c → sending_child s p t ≡ c
      back w = last_is (child_sends s p t) (used s.links) c (omega (arith, w.1.1, passes_few s e)) ((sends_when s p t c).1 w)
          (λ m l h. silent m l (child_sends s p t m) refl)
        where
          silent : (m : ℕ) → c < m → (b : Bool) → child_sends s p t m ≡ b → b ≡ false
          silent m l true q = absurd (omega (arith, sender_one m c ((sends_when s p t m).0 q) w))
          silent m l false q = refl

      none : (c ≡ 0) × NoneSends s p t → sending_child s p t ≡ c
      none w = ⊎_elim (λ l. absurd (w.1 _ ((sends_when s p t _).0 (last_passes (child_sends s p t) (used s.links) l)))) (λ l. omega (arith, l, w.0))
          (lt_or_le 0 (sending_child s p t))

-- A lookup is accepted with c just when the site passes, the parent is the root or a node, and c is the child that sends or, where none does, 0.
pub sender_when : (s : Site) (p t c : ℕ) → (sender_of s p t ≡ accepted c) ↔ (Sound s × (p ≤ s.links) × SendingChild s p t c)
unfolding sender_of lookup_of
sender_when s p t c = (
  λ e. let a = past (not (passes_of s)) 14 0 _ e in
      let b = past (ltb s.links p) 6 0 _ a.1 in
      let passes = not-false _ a.0 in
      let q : sending_child s p t ≡ c = cc in
      ((passes_sound s).0 passes, ltb-false _ _ b.0, (child_when s passes p t c).0 q),
  λ w. let passes = (passes_sound s).1 w.0 in
      sym (sender_passes s p t (passes_of s) refl (rw passes) _ (lookup_found s p t c w.1 (sym ((child_when s passes p t c).1 w.2)))),
)

-- A child above 0 is given just when it is one of that parent and sends in that slot, and 0 just when none does.
pub sender_child : (s : Site) (p t c : ℕ) → 1 ≤ c → (sender_of s p t ≡ accepted c) ↔ (Sound s × (p ≤ s.links) × ChildSends s p t c)
sender_child s p t c o = (
  λ e. let w = (sender_when s p t c).0 e in (w.0, w.1, ⊎_elim (λ a. a) (λ a. absurd (omega (arith, a.0))) w.2),
  λ w. (sender_when s p t c).1 (w.0, w.1, inl w.2),
)

pub sender_none : (s : Site) (p t : ℕ) → (sender_of s p t ≡ accepted 0) ↔ (Sound s × (p ≤ s.links) × NoneSends s p t)
sender_none s p t = (
  λ e. let w = (sender_when s p t 0).0 e in (w.0, w.1, ⊎_elim (λ a. absurd (omega (arith, a.1.0))) (λ a. a.1) w.2),
  λ w. (sender_when s p t 0).1 (w.0, w.1, inr (refl, w.2)),
)

-- Every answer, by the first check that fails.
pub sender_first : (s : Site) (p t : ℕ) (o : Outcome ℕ) → (sender_of s p t ≡ o) ↔ Ruled (SendingChild s p t) (sender_checks s p) o
unfolding sender_of lookup_of
sender_first s p t o =
    site_first (SendingChild s p t) o _ _ s
    (λ e. ruled_test (SendingChild s p t) o (ltb s.links p) 6 0 _ none _ (ltb-true _ _, lt-ltb _ _)
    (λ _. ruled_end (SendingChild s p t) o (sending_child s p t) ((child_when s e p t _).0 refl) (λ c w. sym ((child_when s e p t c).1 w))))

-- 02, U3. On the site without links the root is the only parent, and nobody sends to it.
pub sender_unlinked : (t : ℕ) → (sender_of empty_site 0 t ≡ accepted 0) × ((p : ℕ) → 1 ≤ p → sender_of empty_site p t ≡ refused 6 0)
unfolding sender_of lookup_of sending_child last used
sender_unlinked t = (rw empty_passes, λ p l. rw (empty_passes, lt-ltb 0 p l))

pub sender_looks : (s : Site) (p t : ℕ) → passes_of s ≡ true → sender_of s p t ≡ lookup_of s p t
unfolding sender_of
sender_looks s p t e = rw e
