-- Lines of text with decimal numbers.
use Rattle.std.specs.Prelude.{ℕ, ◌-◌, Bool, true, false, cond, not, List, [], ◌∷◌, ltb, eqb, length, get_or, take, drop, Option, Some, None, Result, Ok, Err}
use Rattle.lists.specs.Search.{first_in}
use Rattle.text.specs.Decimal.{is_digit, value_of}
use Rattle.testlib_text.specs.declared.Change.{Change}

-- A number of a line, if it was found, and the index behind its last digit.
pub record NumberAt : Type 0 where
  pub found : Bool
  pub value : ℕ
  pub next : ℕ

-- A change of an entry, if its three numbers were found, and the index behind them.
pub record ChangeAt : Type 0 where
  pub found : Bool
  pub field : ℕ
  pub index : ℕ
  pub value : ℕ
  pub next : ℕ

-- The first byte of a line is this byte.
unfoldable pub begins_with : List ℕ → ℕ → Bool
begins_with [] byte = false
begins_with (c ∷ cs) byte = eqb c byte

-- The index of the first byte from `start` on that has the test: the length where there is none, and `start` where that is not below the length.
abbrev pub index_from : (ℕ → Bool) → List ℕ → ℕ → ℕ
index_from p bytes start = first_in (λ i. p (get_or bytes i 0)) (length bytes) start

-- A byte is a digit, or else is none.
abbrev pub digit_is : Bool → ℕ → Bool
digit_is digit c = cond digit (is_digit c) (not (is_digit c))

-- The index of the first byte from `start` on that is a digit, or else of the first that is none.
unfoldable pub scanned : List ℕ → ℕ → Bool → ℕ
scanned line start digit = index_from (digit_is digit) line start

-- The first digit from `start` on, and the end of the digits that begin at `first`.
abbrev pub number_start : List ℕ → ℕ → ℕ
number_start line start = scanned line start true

abbrev pub number_end : List ℕ → ℕ → ℕ
number_end line first = scanned line first false

-- The number whose digits stand from index `first` on and before index `next`: what the first ten of them say.
abbrev pub decimal_at : List ℕ → ℕ → ℕ → NumberAt
decimal_at line first next = record { found = true; value = value_of (take 10 (take (next - first) (drop first line))); next = next }

-- The first number from `start` on.
unfoldable pub number_from : List ℕ → ℕ → NumberAt
number_from line start =
    cond (ltb (number_start line start) (length line)) (decimal_at line (number_start line start) (number_end line (number_start line start)))
    (record { found = false; value = 0; next = length line })

-- The change that three numbers make; and that of the first three from `start` on, each behind the one before.
abbrev pub change_of : NumberAt → NumberAt → NumberAt → ChangeAt
change_of field index value = record {
  found = value.found;
  field = field.value;
  index = index.value;
  value = value.value;
  next = value.next;
}

abbrev pub number_after : List ℕ → NumberAt → NumberAt
number_after line n = number_from line n.next

unfoldable pub change_from : List ℕ → ℕ → ChangeAt
change_from line start =
    change_of (number_from line start) (number_after line (number_from line start)) (number_after line (number_after line (number_from line start)))

-- The number that a line gives from an index on, if there is one.
abbrev pub number_told : NumberAt → Option ℕ
number_told n = cond n.found (Some n.value) None

-- What a line has of a change from an index on, 0 for the numbers that are missing; and the change, if it is complete.
abbrev pub change_read : ChangeAt → Change
change_read c = record { field = c.field; index = c.index; value = c.value }

abbrev pub change_told : ChangeAt → Result Change Change
change_told c = cond c.found (Ok (change_read c)) (Err (change_read c))
