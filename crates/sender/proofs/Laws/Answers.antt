-- One law for each answer of a lookup, and for each turn of its search.
use Prim.Native.Nat.{ℕ, ◌-◌, ◌≤◌, ◌<◌}
use mathlib.Core.Path.{◌≡◌, sym, ◌∙◌}
use mathlib.Core.Bool.{Bool, true, false, not}
use lib.ListN.{get_or}
use borrow.Author.Tests.{lt-ltb, le-ltb, le-leb, eq-eqb, ne_eqb}
use native.Mathlib.Omega.{arith}
use Rattle.rulings.specs.Outcome.{Outcome, accepted}
use Rattle.lists.specs.Search.{last}
use Rattle.slot_rule.specs.Rule.{sends}
use Rattle.lists.proofs.Laws.Search.{last_hit, last_miss}
use Rattle.site.specs.declared.Site.{Site}
use Rattle.site.specs.Sites.{used}
use Rattle.tree.proofs.Laws.Tree.{link_in}
use Rattle.schedule.specs.Schedule.{link_sends}
use Rattle.site_check.specs.Check.{passes_of}
use Rattle.sender.specs.Sender.{child_sends, sending_child, lookup_of, sender_of}

-- The search from node n down, n at most the number of links.
pub record Looking (s : Site) (p t n : ℕ) : Type 0 where
  pub most : n ≤ used s.links
  pub rest : sending_child s p t ≡ last (child_sends s p t) n

pub look_start : (s : Site) (p t n : ℕ) → n ≡ used s.links → Looking s p t n
unfolding sending_child
look_start s p t n e = record { most = omega arith; rest = rw e }

module _ (s : Site) (p t n : ℕ) (w : Looking s p t n) where
  pub look_end : n ≤ 0 → 0 ≡ sending_child s p t
  unfolding last
  look_end l = let e : n ≡ 0 = omega arith in sym (w.rest ∙ rw e)

  module _ (some : 0 < n) where
    step : child_sends s p t n ≡ false → Looking s p t (n - 1)
    step e = record { most = omega (arith, w.most); rest = w.rest ∙ last_miss (child_sends s p t) n some e }

    pub look_other : (get_or s.parents (n - 1) 0 ≡ p → ⊥) → Looking s p t (n - 1)
    unfolding child_sends
    look_other d = step (rw (← link_in s.parents n some, ne_eqb _ _ d))

    module _ (is : get_or s.parents (n - 1) 0 ≡ p) (r : Bool) (e : r ≡ sends (get_or s.periods (n - 1) 0) (get_or s.offsets (n - 1) 0) t) where
      child : child_sends s p t n ≡ r
      unfolding child_sends link_sends used
      child =
          rw (
            ← link_in s.parents n some,
            eq-eqb _ _ is,
            lt-ltb 0 n some,
            le-leb n s.links (omega (arith, w.most)),
            ← link_in s.periods n some,
            ← link_in s.offsets n some,
            ← e,
          )

      pub look_here : r ≡ true → n ≡ sending_child s p t
      look_here q = sym (w.rest ∙ last_hit (child_sends s p t) n some (child ∙ q))

      pub look_silent : r ≡ false → Looking s p t (n - 1)
      look_silent q = step (child ∙ q)

-- The answers of a lookup.
module _ (s : Site) (p t : ℕ) where
  pub lookup_found : (c : ℕ) → p ≤ s.links → c ≡ sending_child s p t → accepted c ≡ lookup_of s p t
  unfolding lookup_of
  lookup_found c l q = rw (le-ltb _ _ l, q)

  module _ (b : Bool) (e : b ≡ passes_of s) where
    pub sender_passes : not b ≡ false → (o : Outcome ℕ) → o ≡ lookup_of s p t → o ≡ sender_of s p t
    unfolding sender_of
    sender_passes n o q = q ∙ rw (← e, n)
