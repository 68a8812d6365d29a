-- Where a link of a site with its own schedule stands among the children of its parent, and what the slot rule assigns there.
use Prim.Native.Nat.{ℕ, ◌%◌, ◌≤◌, ◌<◌}
use mathlib.Core.Path.{◌≡◌, refl, ◌∙◌, ap}
use mathlib.Core.Bool.{Bool, true, false, cond, and-eq-true_iff}
use mathlib.Core.List.{List, [], ◌∷◌}
use mathlib.Core.Logic.{◌↔◌}
use lib.Dec.{ltb, leb, eqb}
use lib.ListN.{length, get_or}
use borrow.Author.Tests.{lt-ltb, le-leb, eq-eqb, ltb-true, leb-true}
use native.Mathlib.Omega.{arith}
use Rattle.slot_rule.specs.Rule.{base, periods_of, offsets_of}
use Rattle.slot_rule.specs.Words.{SendsIn}
use Rattle.slot_rule.proofs.Laws.{sends_when}
use Rattle.slot_rule.proofs.Laws.Room.{periods_long}
use Rattle.site.specs.declared.Site.{Site}
use Rattle.tree.specs.Tree.{of_link, has}
use Rattle.site.specs.Sites.{used}
use Rattle.schedule.specs.Schedule.{gaps_under, rank, assigned_under, offsets_assigned, periods_assigned, link_sends}
use Rattle.reservations.specs.Reservations.{along}
use Rattle.schedule.specs.Words.{Wellgapped, Served, Timed, SendsAt}
use Rattle.schedule.proofs.Laws.Crowded.{fits_base}
use Rattle.schedule.proofs.Laws.Schedule.{base_under_lem, child_gap, assigned_lists, entry_at}

used_all : (links : ℕ) → links ≤ 63 → used links ≡ links
unfolding used
used_all links few = omega arith

-- The link at index i under its parent p: its place among p's children, and there what the slot rule assigns for their gaps, which these lists have.
pub record Placed (s : Site) (offsets periods : List ℕ) (p i : ℕ) : Type 0 where
  pub base_some : 1 ≤ base 2 (gaps_under s p)
  pub place : rank s p i < length (gaps_under s p)
  pub gap : get_or (gaps_under s p) (rank s p i) 0 ≡ get_or s.gaps i 0
  pub offset : get_or offsets i 0 ≡ get_or (offsets_of 2 (gaps_under s p)) (rank s p i) 0
  pub period : get_or periods i 0 ≡ get_or (periods_of 2 (gaps_under s p)) (rank s p i) 0
  pub among : rank s p i < length (periods_of 2 (gaps_under s p))

-- A sum over links rises with the entry of each.
pub along_rises : (xs ys ms : List ℕ) → ((m : ℕ) → has m ms ≡ true → of_link xs m ≤ of_link ys m) → along xs ms ≤ along ys ms
unfolding along has
along_rises xs ys [] h = omega arith
along_rises xs ys (m ∷ ms) h =
    omega (arith, h m (simp (eq-eqb m m refl)), along_rises xs ys ms (λ k e. h k (later (eqb m k) (has k ms) e)))
  where
    later : (b x : Bool) → x ≡ true → cond b true x ≡ true
    later true x e = refl
    later false x e = e

pub sends_in : (s : Site) (n t : ℕ) → (link_sends s n t ≡ true) ↔ SendsAt s n t
unfolding link_sends
sends_in s n t = (
  λ e. let a = (and-eq-true_iff (ltb 0 n) _).0 e in let b = (and-eq-true_iff (leb n s.links) _).0 a.1 in
      (ltb-true 0 n a.0, leb-true n s.links b.0, (sends_when _ _ _).0 b.1),
  λ w. rw (lt-ltb 0 n w.0, le-leb n s.links w.1, (sends_when (of_link s.periods n) (of_link s.offsets n) t).1 w.2),
)

-- In lists that are the site's schedule every link is placed under its parent.
module _ (s : Site) (few : s.links ≤ 63) (gapped : Wellgapped s) (below : (i : ℕ) → i < s.links → get_or s.parents i 0 ≤ i) (served : Served s)
    (offsets periods : List ℕ) (o : offsets ≡ offsets_assigned s) (q : periods ≡ periods_assigned s) where
  pub placed_in : (p i : ℕ) → i < s.links → get_or s.parents i 0 ≡ p → Placed s offsets periods p i
  placed_in p i a e =
      record {
        base_some = some;
        place = c.0;
        gap = c.1;
        offset = ap (λ (l : List ℕ). get_or l i 0) o ∙ x.0 ∙ ap (λ (l : List ℕ). get_or l (rank s p i) 0) d.0;
        period = ap (λ (l : List ℕ). get_or l i 0) q ∙ x.1 ∙ ap (λ (l : List ℕ). get_or l (rank s p i) 0) d.1;
        among = rw (periods_long 2 (omega arith) (gaps_under s p) some) c.0;
      }
    where
      all : used s.links ≡ s.links
      all = used_all s.links few

      c : (rank s p i < length (gaps_under s p)) × (get_or (gaps_under s p) (rank s p i) 0 ≡ get_or s.gaps i 0)
      c = child_gap s p i (omega (arith, all)) e

      some : 1 ≤ base 2 (gaps_under s p)
      some = (fits_base (gaps_under s p)).1 (served.fit p (omega (arith, below i a), omega (arith, c.0)))

      d : ((assigned_under s p).1 ≡ offsets_of 2 (gaps_under s p)) × ((assigned_under s p).2 ≡ periods_of 2 (gaps_under s p))
      d = assigned_lists s p gapped (omega (arith, c.0)) (rw (base_under_lem s p gapped (omega (arith, c.0))) some)

      x : (get_or (offsets_assigned s) i 0 ≡ get_or (assigned_under s p).1 (rank s p i) 0)
          × (get_or (periods_assigned s) i 0 ≡ get_or (assigned_under s p).2 (rank s p i) 0)
      x = entry_at s p i (omega (arith, all)) e (omega (arith, all, below i a))

module _ (s : Site) (h : Timed s) where
  pub placed : (p i : ℕ) → i < s.links → get_or s.parents i 0 ≡ p → Placed s s.offsets s.periods p i
  placed = placed_in s h.few h.gapped h.below h.served s.offsets s.periods h.offsets h.periods

  -- A slot of a link's offset is one in which the child at its place sends.
  pub slot : (p i t : ℕ) → Placed s s.offsets s.periods p i → t % get_or s.periods i 0 ≡ get_or s.offsets i 0
      → SendsIn (periods_of 2 (gaps_under s p)) (offsets_of 2 (gaps_under s p)) (rank s p i) t
  slot p i t w u = rw (← w.period, ← w.offset) u
