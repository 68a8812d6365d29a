-- What an inner function tells its caller, and what an answer says in the terms of the definitions.
use Rattle.std.specs.Prelude.{ℕ, Bool, true, false, cond, ◌&&◌, List, Option, Some, None, replicate}
use Rattle.text.specs.Decimal.{value_of, is_number}
use Rattle.arrivals_text.specs.Counts.{flow_part, count_part}

-- The flow and the packets that a word N=K gives.
unfoldable pub arrival_of : List ℕ → Option (ℕ × ℕ)
arrival_of word =
    cond (is_number (flow_part word) 63 && is_number (count_part word) 65535) (Some (value_of (flow_part word), value_of (count_part word))) None

-- Where there are no arrivals, none are given.
abbrev pub arrivals_told : Option (List ℕ) → Bool × List ℕ
arrivals_told (Some counts) = (true, counts)
arrivals_told None = (false, replicate 64 0)
