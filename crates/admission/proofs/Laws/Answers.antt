-- What a call that is lent counters answers and leaves, whatever its own checks are.
use Prim.Native.Nat.{ℕ, ◌+◌, ◌*◌, ◌≤◌}
use mathlib.Core.Path.{◌≡◌, sym, ◌∙◌}
use mathlib.Core.List.{List}
use lib.ListN.{length}
use borrow.Author.Tests.{le-leb}
use Rattle.rulings.specs.Outcome.{Ruling, accepted, refused, checked, settled}
use Rattle.rulings.proofs.Laws.Outcomes.{checked_pass}
use Rattle.site.specs.declared.Site.{Site}
use Rattle.site_check.specs.Check.{call_fault}
use Rattle.counters.specs.Blocks.{with_cells, zeros, cleared}
use Rattle.admission.specs.Calls.{change}

-- 1 and 14 before other checks.
module _ (s : Site) (cs : List ℕ) (others : Ruling) where
  pub call_passes : 0 ≡ call_fault s cs → (r : Ruling) → r ≡ others → r ≡ checked (call_fault s cs) others
  call_passes passed r e = e ∙ sym (checked_pass _ _ (sym passed))

-- What a call leaves by its ruling.
module _ (r : Ruling) (next s : Site) where
  pub call_accepted : (n : ℕ) (cs : List ℕ) → accepted tt ≡ r → (t : Site) (ds : List ℕ) → t ≡ next → ds ≡ cleared n cs
      → (r ≡ accepted tt → 9 * n + 9 ≤ length cs) → (accepted tt, t, ds) ≡ change r next s (with_cells n (zeros 9) cs) cs
  unfolding change cleared settled
  call_accepted n cs a t ds q k room =
      let fits = room (sym a) in
      let c : ds ≡ with_cells n (zeros 9) cs = rw (le-leb _ _ fits) at k in
      rw (c, q, ← a)

  pub call_refused : (number place : ℕ) → refused number place ≡ r → (new cs : List ℕ) → (refused number place, s, cs) ≡ change r next s new cs
  unfolding change settled
  call_refused number place a new cs = rw (← a)
