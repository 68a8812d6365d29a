-- What the functions of this crate answer whatever they are asked; the laws of proofs/Laws.antt say where this is rule 2 and rule 4. The public promise of the
-- slot rule cites none of this.
use Rattle.std.specs.Prelude.{ℕ, cond, List, eqb, ltb, length}
use Rattle.slot_rule.specs.Rule.{period, base}

-- Rule 2, and 0 for a factor below 2, the base 0 or a gap below the base.
unfoldable pub period_or_none : ℕ → ℕ → ℕ → ℕ
period_or_none f b g = cond (ltb f 2) 0 (cond (eqb b 0) 0 (cond (ltb g b) 0 (period f b g)))

-- Rule 4, and 0 for a factor below 2 or a number of gaps outside 1 to 63.
unfoldable pub base_or_none : ℕ → List ℕ → ℕ
base_or_none f gaps = cond (ltb f 2) 0 (cond (eqb (length gaps) 0) 0 (cond (ltb 63 (length gaps)) 0 (base f gaps)))
