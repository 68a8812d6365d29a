-- The rules in words of 'for all' and 'exists'. The laws of proofs/Laws.antt say that the definitions mean this.
use Rattle.std.specs.Prelude.{ℕ, ◌+◌, ◌%◌, ◌≤◌, ◌<◌, ◌≡◌, true, false, List, ◌⊎◌, length, get_or}
use Rattle.lists.specs.Lists.{smallest}
use Rattle.slot_rule.specs.Rule.{fits}

-- What 1 and 5 ask of the lists.
abbrev pub InLimits : ℕ → Type 0
InLimits gap = (1 ≤ gap) × (gap ≤ 1024)

pub record Good (gaps offsets periods : List ℕ) : Type 0 where
  pub offsets_long : length offsets ≡ length gaps
  pub periods_long : length periods ≡ length gaps
  pub some : 1 ≤ length gaps
  pub few : length gaps ≤ 63
  pub limits : (i : ℕ) → i < length gaps → InLimits (get_or gaps i 0)

-- Rules 1 and 4: b is a base from 1 to the smallest gap that fits, and no larger one of them does.
abbrev pub LargestFit : ℕ → List ℕ → ℕ → Type 0
LargestFit f gaps b = (1 ≤ b) × (b ≤ smallest gaps) × (fits f b gaps ≡ true)
    × ((k : ℕ) → b < k → k ≤ smallest gaps → fits f k gaps ≡ false)

-- Some base from 1 to the smallest gap fits.
abbrev pub SomeFits : ℕ → List ℕ → Type 0
SomeFits f gaps = (b : ℕ) × (1 ≤ b) × (b ≤ smallest gaps) × (fits f b gaps ≡ true)

-- None of them fits (01: crowded).
abbrev pub NoneFits : ℕ → List ℕ → Type 0
NoneFits f gaps = (b : ℕ) → 1 ≤ b → b ≤ smallest gaps → fits f b gaps ≡ false

-- Rule 6: child k of these lists sends in slot t.
abbrev pub SendsIn : List ℕ → List ℕ → ℕ → ℕ → Type 0
SendsIn ps os k t = t % get_or ps k 0 ≡ get_or os k 0

-- Of the p slots from s on, exactly one is a slot of offset o.
abbrev pub Once : ℕ → ℕ → ℕ → Type 0
Once p o s = (t : ℕ) × (s ≤ t) × (t < s + p) × (t % p ≡ o) × ((u : ℕ) → s ≤ u → u < s + p → u % p ≡ o → u ≡ t)

-- Rule 5, the order of assignment: child k goes before one of period p and index i, and before child i.
abbrev pub Precedes : List ℕ → ℕ → ℕ → ℕ → Type 0
Precedes ps p i k = (get_or ps k 0 < p) ⊎ ((get_or ps k 0 ≡ p) × (k < i))

abbrev pub Earlier : List ℕ → ℕ → ℕ → Type 0
Earlier ps i k = Precedes ps (get_or ps i 0) i k

-- A child that goes before child i sends in a slot of i's offset o.
abbrev pub Meets : List ℕ → List ℕ → ℕ → ℕ → Type 0
Meets ps os i o = (t : ℕ) × (k : ℕ) × (k < length ps) × Earlier ps i k × (t % get_or ps i 0 ≡ o) × SendsIn ps os k t

-- Rule 5, free: with offset o child i and a child that goes before it send together in no slot at all.
abbrev pub Free : List ℕ → List ℕ → ℕ → ℕ → Type 0
Free ps os i o = (t k : ℕ) → k < length ps → Earlier ps i k → t % get_or ps i 0 ≡ o → SendsIn ps os k t → ⊥

-- Rule 5: o is below child i's period and free, and each smaller offset is met.
abbrev pub SmallestFree : List ℕ → List ℕ → ℕ → ℕ → Type 0
SmallestFree ps os i o = (o < get_or ps i 0) × Free ps os i o × ((q : ℕ) → q < o → Meets ps os i q)
