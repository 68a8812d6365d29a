-- The packets that the words N=K of a slot give, by flow number.
use Rattle.std.specs.Prelude.{ℕ, ◌+◌, Bool, true, false, cond, not, ◌&&◌, List, [], ◌∷◌, length, get_or, drop, set, replicate}
use Rattle.text.specs.Decimal.{value_of, is_number}
use Rattle.line_words.specs.Parts.{is, before}

-- A word N=K: N before the first `=`, K behind it.
unfoldable pub flow_part : List ℕ → List ℕ
flow_part word = before (is 61) word

unfoldable pub count_part : List ℕ → List ℕ
count_part word = drop (length (flow_part word) + 1) word

-- It names a flow, one that is not named yet, and a number of packets.
unfoldable pub is_new : List ℕ → List Bool → Bool
is_new word named = is_number (flow_part word) 63 && is_number (count_part word) 65535 && not (get_or named (value_of (flow_part word)) false)

unfoldable pub put_count : List ℕ → List ℕ → List ℕ
put_count word counts = set counts (value_of (flow_part word)) (value_of (count_part word))

unfoldable pub put_name : List ℕ → List Bool → List Bool
put_name word named = set named (value_of (flow_part word)) true

-- Words N=K, each of which puts its K at its N, and whether all of them can.
unfoldable pub counts_of : List (List ℕ) → List ℕ → List Bool → Bool × List ℕ
counts_of [] counts named = (true, counts)
counts_of (word ∷ words) counts named =
    cond (is_new word named) (counts_of words (put_count word counts) (put_name word named)) (false, replicate 64 0)

-- The arrivals that words give: of a flow that none of them names, 0.
unfoldable pub arrivals_of : List (List ℕ) → Bool × List ℕ
arrivals_of words = counts_of words (replicate 64 0) (replicate 64 false)
