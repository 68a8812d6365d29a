-- Crowded parents: when 11 finds one, and when it finds none.
use Prim.Native.Nat.{ℕ, ◌+◌, ◌≤◌, ◌<◌}
use mathlib.Core.Path.{◌≡◌, sym, ◌∙◌}
use mathlib.Core.Bool.{true, false, not, false≢true, and-eq-true_iff}
use mathlib.Core.List.{List}
use mathlib.Core.Logic.{⊎_elim, ◌↔◌}
use lib.Dec.{eqb}
use lib.ListN.{length}
use borrow.Author.Tests.{eq-eqb, ne_eqb, eqb-true, eqb-false, not-true}
use native.Mathlib.Omega.{arith}
use Rattle.slot_rule.specs.Rule.{base}
use Rattle.slot_rule.specs.Words.{SomeFits, NoneFits}
use Rattle.lists.proofs.Laws.Search.{lt_or_le, first_none, first_found}
use Rattle.slot_rule.proofs.Laws.Bases.{base_fits, base_none}
use Rattle.site.specs.declared.Site.{Site}
use Rattle.site.specs.Sites.{used}
use Rattle.schedule.specs.Schedule.{gaps_under, crowded, first_crowded}
use Rattle.schedule.specs.Words.{Wellgapped, Parent, Served, CrowdedAt}
use Rattle.schedule.proofs.Laws.Schedule.{base_under_lem}

-- A parent that has children is not crowded just when the slot rule finds a base for them; one that has none is not crowded.
crowded_base : (s : Site) → Wellgapped s → (p : ℕ) → 1 ≤ length (gaps_under s p) → (crowded s p ≡ false) ↔ (1 ≤ base 2 (gaps_under s p))
unfolding crowded
crowded_base s g p some =
    let n : length (gaps_under s p) ≡ 0 → ⊥ = omega arith in
    simp (ne_eqb _ _ n, base_under_lem s p g some)
    (λ e. omega (arith, eqb-false (base 2 (gaps_under s p)) 0 e), λ l. ne_eqb (base 2 (gaps_under s p)) 0 (omega arith))

-- A crowded one has children, and no base fits them.
crowded_parent : (s : Site) → Wellgapped s → (p : ℕ) → crowded s p ≡ true → (1 ≤ length (gaps_under s p)) × NoneFits 2 (gaps_under s p)
unfolding crowded
crowded_parent s g p e =
    let w = (and-eq-true_iff (not (eqb (length (gaps_under s p)) 0)) _).0 e in
    let n : length (gaps_under s p) ≡ 0 → ⊥ = eqb-false _ _ (not-true _ w.0) in
    let some : 1 ≤ length (gaps_under s p) = omega arith in
    (some, (base_none 2 (omega arith) (gaps_under s p)).0 (sym (base_under_lem s p g some) ∙ eqb-true _ _ w.1))

parent_crowded : (s : Site) → Wellgapped s → (p : ℕ) → 1 ≤ length (gaps_under s p) → NoneFits 2 (gaps_under s p) → crowded s p ≡ true
unfolding crowded
parent_crowded s g p some none =
    let n : length (gaps_under s p) ≡ 0 → ⊥ = omega arith in
    simp (ne_eqb _ _ n, base_under_lem s p g some, (base_none 2 (omega arith) (gaps_under s p)).1 none)

crowded_childless : (s : Site) (p : ℕ) → length (gaps_under s p) ≡ 0 → crowded s p ≡ false
unfolding crowded
crowded_childless s p z = simp (eq-eqb _ _ z)

-- It finds one just when some base fits.
pub fits_base : (gaps : List ℕ) → (1 ≤ base 2 gaps) ↔ SomeFits 2 gaps
fits_base gaps = (
  λ l. let w = base_fits 2 (omega arith) gaps l in (base 2 gaps, w.0, w.1, w.2),
  λ w. ⊎_elim (λ l. l) (λ m. absurd (none w (omega arith))) (lt_or_le 0 (base 2 gaps)),
)
  where
    none : SomeFits 2 gaps → base 2 gaps ≡ 0 → ⊥
    none (b, one, most, e) z = false≢true (sym ((base_none 2 (omega arith) gaps).0 z b one most) ∙ e)

-- The search of 11 finds nothing, or its first, just when the site is as the words say.
module _ (s : Site) (few : s.links ≤ 63) (g : Wellgapped s) where
  -- Whether a parent is crowded, by the test and in words.
  parent_served : (p : ℕ) → crowded s p ≡ false → Parent s p → SomeFits 2 (gaps_under s p)
  parent_served p e (l, some) = (fits_base _).0 ((crowded_base s g p some).0 e)

  served_parent : (p : ℕ) → p ≤ s.links → (Parent s p → SomeFits 2 (gaps_under s p)) → crowded s p ≡ false
  served_parent p l fit =
      ⊎_elim (λ some. (crowded_base s g p some).1 ((fits_base _).1 (fit (l, some)))) (λ none. crowded_childless s p (omega arith))
      (lt_or_le 0 (length (gaps_under s p)))

  pub served_when : (used s.links < first_crowded s) ↔ Served s
  unfolding first_crowded used
  served_when = (
    λ h. record { fit = λ p w. parent_served p ((first_none (crowded s) (used s.links + 1)).0 (omega arith) p (omega (arith, w.0))) w },
    λ w. let none = (first_none (crowded s) (used s.links + 1)).1 (λ p l. served_parent p (omega arith) (w.fit p)) in omega arith,
  )

  pub crowded_when : (p : ℕ) → ((first_crowded s ≡ p) × (p < used s.links + 1)) ↔ CrowdedAt s p
  unfolding first_crowded used
  crowded_when p = (
    λ w. let f = (first_found (crowded s) (used s.links + 1) p).0 w in
        let c = crowded_parent s g p f.1 in
        record { parent = (omega (arith, f.0), c.0); none = c.1; lower = λ q l. parent_served q (f.2 q l) },
    λ w. (first_found (crowded s) (used s.links + 1) p).1 (
      omega (arith, w.parent.0),
      parent_crowded s g p w.parent.1 w.none,
      λ q l. served_parent q (omega (arith, w.parent.0)) (w.lower q l),
    ),
  )
