-- One law for each way that a check of a LINK ends.
use Prim.Native.Nat.{ℕ, ◌+◌, ◌*◌, ◌≤◌, ◌<◌}
use mathlib.Core.Path.{◌≡◌, refl, sym, ◌∙◌}
use mathlib.Core.Bool.{Bool, true, false, false≢true}
use mathlib.Core.List.{List}
use mathlib.Core.Logic.{◌⊎◌, inl, inr, ⊎_elim, ◌↔◌}
use lib.ListN.{get_or}
use native.Mathlib.Omega.{arith}
use Rattle.std.proofs.lemmas.Bool.Decides.{nat_tests}
use Rattle.rulings.proofs.Laws.Choices.{passed}
use Rattle.lists.proofs.Laws.Search.{lt_or_le}
use Rattle.format.proofs.Laws.{number_one, number_two}
use Rattle.schedule_reader.specs.declared.Link.{Link}
use Rattle.schedule_reader.specs.Read.{link_at, out_of_order, link_fault}
use Rattle.schedule_check.specs.Schedules.{bad_slots}
use Rattle.schedule_check.specs.Words.{SlotsWithin}
use Rattle.schedule_check.proofs.Laws.Slots.{slots_when}

-- 21.
module _ (links node : ℕ) where
  -- Not out of order: there is room, and the number is the next.
  pub order_when : (out_of_order links node ≡ false) ↔ ((links < 63) × (node ≡ links + 1))
  unfolding out_of_order
  order_when = (λ e. (grind (arith, nat_tests), grind (arith, nat_tests)), λ w. grind (arith, nat_tests))

  -- Out of order: no number is left, or the number is not the next.
  pub order_fails : (out_of_order links node ≡ true) ↔ ((63 ≤ links) ⊎ (node ≡ links + 1 → ⊥))
  order_fails = (
    λ e. ⊎_elim (λ l. inr (λ q. false≢true (sym (order_when.1 (l, q)) ∙ e))) inl (lt_or_le links 63),
    λ w. go (out_of_order links node) refl w,
  )
    where
      go : (t : Bool) → out_of_order links node ≡ t → (63 ≤ links) ⊎ (node ≡ links + 1 → ⊥) → out_of_order links node ≡ true
      go true e w = e
      go false e w = let o = order_when.0 e in absurd (⊎_elim (λ l. omega arith) (λ n. n o.1) w)

-- What a LINK has that passes.
pub link_passed : (links : ℕ) (l : Link) → link_fault links l ≡ 0 → (links < 63) × (l.node ≡ links + 1) × SlotsWithin l.offset l.period
unfolding link_fault
link_passed links l e =
    let a = passed (out_of_order links l.node) 21 _ (omega arith) e in
    let b = passed (bad_slots l.offset l.period) 22 0 (omega arith) a.1 in
    let o = (order_when links l.node).0 a.0 in
    (o.0, o.1, (slots_when l.offset l.period).0 b.0)

-- The operands of the LINK at index `at`.
pub link_at_lem : (bytes : List ℕ) (at n o p : ℕ) → n ≡ get_or bytes (at + 1) 0 → o ≡ get_or bytes (at + 2) 0 + 256 * get_or bytes (at + 3) 0
    → p ≡ get_or bytes (at + 4) 0 + 256 * get_or bytes (at + 5) 0 → record { node = n; offset = o; period = p } ≡ link_at bytes at
unfolding link_at
link_at_lem bytes at n o p en eo ep =
    rw (number_one bytes (at + 1), number_two bytes (at + 2) (at + 3) (omega arith), number_two bytes (at + 4) (at + 5) (omega arith))
    (λ i. record { node = en i; offset = eo i; period = ep i })
