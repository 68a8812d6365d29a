-- Slots that are marked, and the frame of a parent.
use Prim.Native.Nat.{ℕ, suc, max, ◌+◌, ◌-◌, ◌≤◌, ◌<◌}
use mathlib.Core.Path.{◌≡◌, sym, ◌∙◌, ap}
use mathlib.Core.Bool.{Bool, true, false, not, ◌&&◌}
use mathlib.Core.List.{[]}
use lib.Dec.{eqb}
use lib.ListN.{get_or}
use borrow.Author.Tests.{eq-eqb, ne_eqb, lt-ltb, le-ltb, lt-leb, le-leb}
use native.Mathlib.Numerals.{add-one}
use native.Mathlib.Omega.{arith}
use Rattle.lists.specs.Search.{any}
use Rattle.lists.specs.Lists.{largest}
use Rattle.slot_rule.specs.Rule.{sends}
use Rattle.lists.proofs.Laws.Search.{any_hit, any_miss, any_end}
use Rattle.lists.proofs.Laws.Items.{joined_none}
use Rattle.site.specs.declared.Site.{Site}
use Rattle.site.specs.Sites.{used}
use Rattle.tree.specs.Tree.{of_link}
use Rattle.schedule.specs.Schedule.{gaps_from, link_sends}
use Rattle.frames.specs.Marks.{mark, mark_if, marks, idle}

links_within : (links n : ℕ) → n ≡ used links → n ≤ links
unfolding used
links_within links n e = omega (arith, e)

-- A slot that has the test is marked, and another is not.
pub mark_here : (test : ℕ → Bool) (t : ℕ) → test t ≡ true → mark_if test t ≡ mark t
unfolding mark_if
mark_here test t e = rw e

pub mark_none : (test : ℕ → Bool) (t : ℕ) → test t ≡ false → mark_if test t ≡ []
unfolding mark_if
mark_none test t e = rw e

-- Slot rule 6 for a link at an index, and for a node that has a link; any other never sends.
sends_link : (s : Site) (i t : ℕ) → i < s.links → sends (get_or s.periods i 0) (get_or s.offsets i 0) t ≡ link_sends s (i + 1) t
unfolding link_sends of_link
sends_link s i t l = rw (add-one i, lt-ltb 0 (suc i) (omega arith), le-leb (suc i) s.links (omega arith))

pub sends_node : (s : Site) (n t : ℕ) → 0 < n → n ≤ s.links → sends (of_link s.periods n) (of_link s.offsets n) t ≡ link_sends s n t
unfolding link_sends
sends_node s n t l h = rw (lt-ltb 0 n l, le-leb n s.links h)

pub marks_root : (s : Site) (n slots : ℕ) → n ≡ 0 → marks (link_sends s n) slots ≡ []
unfolding marks mark_if link_sends
marks_root s n slots e = joined_none (mark_if (link_sends s n)) slots 0 (λ k h. rw (le-ltb 0 n (omega arith)))

pub marks_beyond : (s : Site) (n slots : ℕ) → s.links < n → marks (link_sends s n) slots ≡ []
unfolding marks mark_if link_sends
marks_beyond s n slots l = joined_none (mark_if (link_sends s n)) slots 0 (λ k h. rw (lt-ltb 0 n (omega arith), lt-leb n s.links l))

pub ruleset link_rules = (marks_root, marks_beyond)

-- The links before index i are no children of p that send in slot t, so that the answer lies in the rest of the n links.
module _ (s : Site) (p t n : ℕ) where
  pub record Silent (i : ℕ) : Type 0 where
    pub all : n ≡ used s.links
    pub upto : i ≤ n
    pub rest : idle s p t ≡ not (any (λ k. eqb (get_or s.parents k 0) p && link_sends s (k + 1) t) (n - i) i)

  child_sends_lem : (i : ℕ) (b : Bool) → Silent i → i < n → sends (get_or s.periods i 0) (get_or s.offsets i 0) t ≡ b → link_sends s (i + 1) t ≡ b
  child_sends_lem i b v l h = sym (sends_link s i t (omega (arith, links_within s.links n v.all))) ∙ h

  pub silent_met : (i : ℕ) → Silent i → i < n → get_or s.parents i 0 ≡ p → sends (get_or s.periods i 0) (get_or s.offsets i 0) t ≡ true
      → false ≡ idle s p t
  silent_met i v l e h = sym (v.rest ∙ ap not (any_hit _ n i l (rw (eq-eqb _ _ e) (child_sends_lem i true v l h))))

  pub silent_child : (i : ℕ) → Silent i → i < n → get_or s.parents i 0 ≡ p → sends (get_or s.periods i 0) (get_or s.offsets i 0) t ≡ false
      → Silent (i + 1)
  silent_child i v l e h = record {
    all = v.all;
    upto = omega arith;
    rest = v.rest ∙ ap not (any_miss _ n i l (rw (eq-eqb _ _ e) (child_sends_lem i false v l h)));
  }

  pub silent_other : (i : ℕ) → Silent i → i < n → (get_or s.parents i 0 ≡ p → ⊥) → Silent (i + 1)
  silent_other i v l e = record { all = v.all; upto = omega arith; rest = v.rest ∙ ap not (any_miss _ n i l (rw (ne_eqb _ _ e))) }

  pub silent_end : (i : ℕ) → Silent i → n ≤ i → true ≡ idle s p t
  silent_end i v l = sym (v.rest ∙ ap not (any_end _ n i l))

-- The frame: the largest of the first child's period and of those of the children behind it.
module _ (s : Site) (p i n : ℕ) (l : i < n) where
  pub frame_child : get_or s.parents i 0 ≡ p
      → largest (gaps_from s.parents s.periods p (n - i) i) ≡ max (get_or s.periods i 0) (largest (gaps_from s.parents s.periods p (n - (i + 1)) (i + 1)))
  unfolding gaps_from largest
  frame_child e = let k : n - i ≡ suc (n - (i + 1)) = omega arith in rw (k, eq-eqb _ _ e)

  pub frame_other : (get_or s.parents i 0 ≡ p → ⊥)
      → largest (gaps_from s.parents s.periods p (n - i) i) ≡ largest (gaps_from s.parents s.periods p (n - (i + 1)) (i + 1))
  unfolding gaps_from
  frame_other e = let k : n - i ≡ suc (n - (i + 1)) = omega arith in rw (k, ne_eqb _ _ e)

pub frame_past : (s : Site) (p i n : ℕ) → n ≤ i → largest (gaps_from s.parents s.periods p (n - i) i) ≡ 0
unfolding gaps_from largest
frame_past s p i n l = let k : n - i ≡ 0 = omega arith in rw k

pub ruleset frame_rules = (frame_child, frame_other, frame_past)
