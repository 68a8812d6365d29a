-- A slot and a start in words of 'for all' and 'exists'. The laws of proofs/Laws.antt say that the definitions mean this.
use Rattle.std.specs.Prelude.{ℕ, ◌+◌, ◌≤◌, ◌<◌, ◌≡◌, true, false, List, length, get_or}
use Rattle.rulings.specs.Outcome.{Checks, none, check}
use Rattle.lists.specs.Lists.{total}
use Rattle.site.specs.declared.Site.{Site}
use Rattle.site.specs.Sites.{live}
use Rattle.site_check.specs.Words.{Sound, call_checks}
use Rattle.counters.specs.Blocks.{cells_of}
use Rattle.slot_checks.specs.Words.{Overflows, Unexpected, Lowest}

-- 01: a slot is accepted where there are 576 counters and 64 arrivals, the site is one that check 14 lets pass, every live flow's nine cells and its arrival are
-- together at most 4,294,967,295, and no other number has arrivals.
pub record Playable (s : Site) (counters arrivals : List ℕ) : Type 0 where
  pub listed : length arrivals ≡ 64
  pub counted : length counters ≡ 576
  pub sound : Sound s
  pub fits : (n : ℕ) → n < 64 → live s n ≡ true → total (cells_of n counters) + get_or arrivals n 0 ≤ 4294967295
  pub expected : (n : ℕ) → n < 64 → live s n ≡ false → get_or arrivals n 0 ≡ 0

-- 01, the order of a slot's checks, each with its place: 1 for both lists, 14, 19, 20.
abbrev pub slot_checks : Site → List ℕ → List ℕ → Checks
slot_checks s counters arrivals =
    check 1 (λ p. (length arrivals ≡ 64 → ⊥) × (p ≡ 0))
    (call_checks s counters
    (check 19 (λ p. Lowest (Overflows s counters arrivals) p)
    (check 20 (λ p. Lowest (Unexpected s arrivals) p)
    none)))

-- 01, the order of a start's checks: 1, 14.
abbrev pub start_checks : Site → List ℕ → Checks
start_checks s counters = call_checks s counters none
