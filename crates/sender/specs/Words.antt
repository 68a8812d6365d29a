-- Who sends, in words of 'for all' and 'exists'. The laws of proofs/Laws.antt say that the definitions mean this.
use Rattle.std.specs.Prelude.{ℕ, ◌<◌, ◌≡◌, ◌⊎◌}
use Rattle.rulings.specs.Outcome.{Checks, none, check}
use Rattle.site.specs.declared.Site.{Site}
use Rattle.tree.specs.Tree.{of_link}
use Rattle.schedule.specs.Words.{SendsAt}
use Rattle.site_check.specs.Words.{site_checks}

-- Node n is a child of p and sends in slot t.
abbrev pub ChildSends : Site → ℕ → ℕ → ℕ → Type 0
ChildSends s p t n = (of_link s.parents n ≡ p) × SendsAt s n t

-- No child of p sends in slot t.
abbrev pub NoneSends : Site → ℕ → ℕ → Type 0
NoneSends s p t = (n : ℕ) → ChildSends s p t n → ⊥

-- 01: c is the child that sends, or 0 where none does.
abbrev pub SendingChild : Site → ℕ → ℕ → ℕ → Type 0
SendingChild s p t c = ChildSends s p t c ⊎ ((c ≡ 0) × NoneSends s p t)

-- 01, the order of a lookup's checks, each with its place: 14, 6.
abbrev pub sender_checks : Site → ℕ → Checks
sender_checks s p = site_checks s (check 6 (λ q. (s.links < p) × (q ≡ 0)) none)
