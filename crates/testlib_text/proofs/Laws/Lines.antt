-- Lines and numbers: what each step of a search leaves, and that what is found lies behind the start and within the line.
use Prim.Native.Nat.{ℕ, suc, ◌+◌, ◌-◌, ◌*◌, ◌^◌, ◌≤◌, ◌<◌}
use mathlib.Core.Path.{◌≡◌, refl, sym, ◌∙◌, ap}
use mathlib.Core.Bool.{Bool, true, false, not, cond, beq, false≢true}
use mathlib.Core.List.{List, [], ◌∷◌}
use mathlib.Core.Logic.{◌⊎◌, inl, inr}
use lib.Dec.{eqb, ltb}
use lib.ListN.{length, get_or, take, drop, drop_of_length-le}
use lib.Seq.{drop-cons}
use borrow.Author.Tests.{lt-ltb, le-ltb}
use native.Mathlib.Nat.{pow-suc, pow-le-pow_right}
use native.Mathlib.Numerals.{add-one}
use native.Mathlib.Omega.{arith}
use Rattle.std.specs.Prelude.{Option, Some, None, is_some, Result, Ok, Err, is_ok}
use Rattle.testlib_text.specs.declared.Change.{Change}
use Rattle.std.specs.Option.{unwrap_or}
use Rattle.std.proofs.lemmas.Option.{none-some, cond_some}
use Rattle.lists.specs.Search.{some_below}
use Rattle.lists.proofs.Laws.Search.{lt_or_le, first_hit, first_miss, first_end, first_passes, below_when, past_when, below_is, past_is}
use Rattle.text.specs.Decimal.{is_digit, value_from, value_of}
use Rattle.line_words.proofs.Laws.Parts.{first_bounds}
use Rattle.testlib_text.specs.Lines.{NumberAt, ChangeAt, number_told, change_read, change_told, digit_is, begins_with, index_from, scanned, number_start, number_end, decimal_at, number_from, number_after, change_from}

-- The first byte of a line, where there is one.
pub begins_none : (line : List ℕ) (byte : ℕ) → length line ≡ 0 → false ≡ begins_with line byte
unfolding begins_with
begins_none [] byte e = refl
begins_none (c ∷ cs) byte e = absurd (omega arith)

pub begins_some : (line : List ℕ) (byte : ℕ) → (length line ≡ 0 → ⊥) → eqb (get_or line 0 0) byte ≡ begins_with line byte
unfolding begins_with
begins_some [] byte n = absurd (n refl)
begins_some (c ∷ cs) byte n = refl

-- What a search over the bytes of a line finds lies behind its start and within the line.
module _ (p : ℕ → Bool) (bytes : List ℕ) (start : ℕ) where
  index_from_lem : start ≤ index_from p bytes start
  index_from_lem = (first_bounds (λ i. p (get_or bytes i 0)) (length bytes - start) start).0

  index_within : start ≤ length bytes → index_from p bytes start ≤ length bytes
  index_within l = omega (arith, (first_bounds (λ i. p (get_or bytes i 0)) (length bytes - start) start).1)

-- What is left of ten digits, or fewer, says the rest.
pub record Saying (few : List ℕ) (i value : ℕ) : Type 0 where
  pub small : value + 29 ≤ 29 * 10 ^ i
  pub rest : value_from value (drop i few) ≡ value_of few

module _ (few : List ℕ) where
  pub saying_start : Saying few 0 0
  unfolding value_of
  saying_start = record { small = omega arith; rest = refl }

  module _ (i value : ℕ) (s : Saying few i value) where
    pub saying_more : (above : ℕ) → i < length few → above ≡ get_or few i 0 - 48 → above ≤ 255 → Saying few (i + 1) (value * 10 + above)
    unfolding value_from
    saying_more above l e most =
        let p : 10 ^ suc i ≡ 10 ^ i * 10 = pow-suc 10 i in
        let m : value + 29 ≤ 29 * 10 ^ i = s.small in
        rw (add-one i) (record {
          small = omega arith;
          rest = ap (λ (x : ℕ). value_from (value * 10 + x) (drop (suc i) few)) e ∙ rw (drop-cons few i 0 l) at s.rest;
        })

    pub saying_small : i < length few → length few ≤ 10 → value ≤ 29000000000
    saying_small l ten =
        let nine : i ≤ 9 = omega arith in
        let m : 10 ^ i ≤ 10 ^ 9 = pow-le-pow_right (omega arith) nine in
        omega (arith, s.small)

    pub saying_end : length few ≤ i → value ≡ value_of few
    unfolding value_from
    saying_end l = rw (drop_of_length-le few l) at s.rest

-- A number that is found, and none.
module _ (line : List ℕ) (start first : ℕ) (e : first ≡ number_start line start) where
  pub number_found : (value next : ℕ) → first < length line → next ≡ number_end line first
      → value ≡ value_of (take 10 (take (next - first) (drop first line))) → record { found = true; value = value; next = next } ≡ number_from line start
  unfolding number_from
  number_found value next l n v =
      ap (λ (w : ℕ). record { found = true; value = w; next = next }) v
      ∙ ap (λ (m : ℕ). decimal_at line first m) n
      ∙ rw e (sym (rw (lt-ltb (number_start line start) (length line) (rw e at l))))

  pub number_none : length line ≤ first → record { found = false; value = 0; next = length line } ≡ number_from line start
  unfolding number_from
  number_none l = sym (rw (le-ltb (number_start line start) (length line) (rw e at l)))

-- The digits of a number that is found lie within the line, one at least.
module _ (line : List ℕ) (first : ℕ) where
  pub end_from : first ≤ number_end line first
  unfolding scanned
  end_from = index_from_lem (λ c. not (is_digit c)) line first

  pub end_within : first ≤ length line → number_end line first ≤ length line
  unfolding scanned
  end_within = index_within (λ c. not (is_digit c)) line first

  end_after : first < length line → is_digit (get_or line first 0) ≡ true → first < number_end line first
  unfolding scanned
  end_after l d =
      let e : number_end line first ≡ number_end line (first + 1) = first_miss (λ i. not (is_digit (get_or line i 0))) (length line) first l (rw d) in
      let m : first + 1 ≤ number_end line (first + 1) = index_from_lem (λ c. not (is_digit c)) line (first + 1) in
      omega arith

module _ (line : List ℕ) (start : ℕ) where
  start_from_lem : start ≤ number_start line start
  unfolding scanned
  start_from_lem = index_from_lem is_digit line start

  start_digit : number_start line start < length line → is_digit (get_or line (number_start line start) 0) ≡ true
  unfolding scanned
  start_digit l = first_passes (λ i. is_digit (get_or line i 0)) (length line - start) start (omega arith)

  -- Behind the start, as long as something of the line is left.
  number_after_lem : start < length line → start < (number_from line start).next
  unfolding number_from
  number_after_lem h = elim (lt_or_le (number_start line start) (length line)) [
    | inl l ↦ rw (lt-ltb _ _ l) (omega (arith, start_from_lem, end_after line (number_start line start) l (start_digit l)))
    | inr l ↦ rw (le-ltb _ _ l) h
  ]

  number_within : (number_from line start).next ≤ length line
  unfolding number_from
  number_within = elim (lt_or_le (number_start line start) (length line)) [
    | inl l ↦ rw (lt-ltb _ _ l) (end_within line (number_start line start) (omega arith))
    | inr l ↦ rw (le-ltb _ _ l) (omega arith)
  ]

  number_from_lem : start ≤ length line → start ≤ (number_from line start).next
  unfolding number_from
  number_from_lem h = elim (lt_or_le (number_start line start) (length line)) [
    | inl l ↦ rw (lt-ltb _ _ l) (omega (arith, start_from_lem, end_from line (number_start line start)))
    | inr l ↦ rw (le-ltb _ _ l) h
  ]

-- The second number behind the start, and the change that ends with the third.
module _ (line : List ℕ) (start : ℕ) where
  abbrev one : NumberAt
  one = number_from line start

  abbrev two : NumberAt
  two = number_after line one

  pub pair_after : start < length line → start < two.next
  pair_after h = omega (arith, number_after_lem line start h, number_from_lem line one.next (number_within line start))

  pub change_after : start < length line → start < (change_from line start).next
  unfolding change_from
  change_after h = omega (arith, pair_after h, number_from_lem line two.next (number_within line one.next))

-- One step of a scan.
module _ (line : List ℕ) (start at : ℕ) (digit : Bool) (here : scanned line start digit ≡ scanned line at digit) where
  module _ (l : at < length line) (t : Bool) (e : t ≡ is_digit (get_or line at 0)) where
    pub scan_hit : beq t digit ≡ true → Some at ≡ some_below (length line) (scanned line start digit)
    unfolding scanned
    scan_hit q = rw (here, first_hit (λ i. digit_is digit (get_or line i 0)) (length line) at l (sought digit t (get_or line at 0) e q)) (below_when _ _ l)
      where
        sought : (d t : Bool) (c : ℕ) → t ≡ is_digit c → beq t d ≡ true → digit_is d c ≡ true
        sought true true c e q = sym e
        sought true false c e q = absurd (false≢true q)
        sought false true c e q = absurd (false≢true q)
        sought false false c e q = rw (← e)

    pub scan_miss : beq t digit ≡ false → scanned line start digit ≡ scanned line (at + 1) digit
    unfolding scanned
    scan_miss n = here ∙ first_miss (λ i. digit_is digit (get_or line i 0)) (length line) at l (passed digit t (get_or line at 0) e n)
      where
        passed : (d t : Bool) (c : ℕ) → t ≡ is_digit c → beq t d ≡ false → digit_is d c ≡ false
        passed true true c e n = absurd (false≢true (sym n))
        passed true false c e n = sym e
        passed false true c e n = rw (← e)
        passed false false c e n = absurd (false≢true (sym n))

  pub scan_none : length line ≤ at → None ≡ some_below (length line) (scanned line start digit)
  unfolding scanned
  scan_none l = rw (here, first_end (λ i. digit_is digit (get_or line i 0)) (length line) at l) (past_when _ _ l)

-- The next number of a line, or none.
module _ (line : List ℕ) (at : ℕ) where
  pub next_none : None ≡ some_below (length line) (number_start line at)
      → (length line ≡ (number_from line at).next) × (None ≡ number_told (number_from line at))
  next_none e =
      let none = number_none line at _ refl (past_is _ _ e) in (ap (λ (n : NumberAt). n.next) none, rw (← none))

  module _ (first end : ℕ) (e : Some first ≡ some_below (length line) (number_start line at))
      (f : end ≡ unwrap_or (some_below (length line) (number_end line first)) (length line)) where
    end_is : end ≡ number_end line first
    end_is = go (lt_or_le (number_end line first) (length line))
      where
        go : (number_end line first < length line) ⊎ (length line ≤ number_end line first) → end ≡ number_end line first
        go (inl l) = rw (lt-ltb _ _ l) at f
        go (inr l) = rw (le-ltb _ _ l) at f ∙ omega (arith, end_within line first (omega (arith, below_is _ _ _ e)))

    pub next_within : (first ≤ end) × (end ≤ length line)
    next_within = rw end_is (end_from line first, end_within line first (omega (arith, below_is _ _ _ e)))

    pub next_some : (value : ℕ) → value ≡ value_of (take 10 (take (end - first) (drop first line)))
        → (end ≡ (number_from line at).next) × (Some value ≡ number_told (number_from line at))
    next_some value v =
        let here = below_is _ _ _ e in
        let found = number_found line at first here.0 value end (omega (arith, here)) end_is v in
        (ap (λ (n : NumberAt). n.next) found, rw (← found))

told_some : (n : NumberAt) (o : Option ℕ) → o ≡ number_told n → is_some o ≡ true → n.found ≡ true
told_some n (Some x) e f = (cond_some n.found n.value x (sym e)).0
told_some n None e f = absurd (false≢true f)

told_none : (n : NumberAt) (o : Option ℕ) → o ≡ number_told n → is_some o ≡ false → n.found ≡ false
told_none n (Some x) e f = absurd (false≢true (sym f))
told_none n None e f = go n.found e
  where
    go : (b : Bool) → None ≡ cond b (Some n.value) None → b ≡ false
    go true e = absurd (none-some n.value e)
    go false e = refl

-- Where a number is missing, its value is 0, and nothing is left of the line.
module _ (line : List ℕ) where
  abbrev missing : NumberAt
  missing = record { found = false; value = 0; next = length line }

  number_missing : (at : ℕ) → (number_from line at).found ≡ false → number_from line at ≡ missing
  unfolding number_from
  number_missing at e = go (lt_or_le (number_start line at) (length line)) e
    where
      go : (number_start line at < length line) ⊎ (length line ≤ number_start line at)
          → (cond (ltb (number_start line at) (length line)) (decimal_at line (number_start line at) (number_end line (number_start line at))) missing).found ≡ false
          → cond (ltb (number_start line at) (length line)) (decimal_at line (number_start line at) (number_end line (number_start line at))) missing ≡ missing
      go (inl l) e = absurd (false≢true (sym (rw (lt-ltb _ _ l) at e)))
      go (inr l) e = rw (le-ltb _ _ l)

  number_beyond : (at : ℕ) → length line ≤ at → number_from line at ≡ missing
  unfolding number_from scanned
  number_beyond at l =
      let past : number_start line at ≡ at = first_end (λ i. digit_is true (get_or line i 0)) (length line) at l in
      rw (past, le-ltb at (length line) l)

  number_past : number_from line (length line) ≡ missing
  number_past = number_beyond (length line) (omega arith)

  number_value : (at : ℕ) (o : Option ℕ) → o ≡ number_told (number_from line at) → unwrap_or o 0 ≡ (number_from line at).value
  unfolding number_from
  number_value at o e = rw e (elim (lt_or_le (number_start line at) (length line)) [
    | inl l ↦ rw (lt-ltb _ _ l)
    | inr l ↦ rw (le-ltb _ _ l)
  ])

  -- The line and the index that each number leaves are those of the next.
  module _ (at : ℕ) (line' : List ℕ) (at' : ℕ) (l : line' ≡ line) (a : at' ≡ (number_from line at).next) where
    module _ (line'' : List ℕ) (at'' : ℕ) (m : line'' ≡ line') (b : at'' ≡ (number_from line' at').next) where
      pub change_behind : (number_from line'' at'').next ≡ (change_from line at).next
      unfolding change_from
      change_behind = rw (m, b, l, a)

      module _ (field index : Option ℕ) (f : field ≡ number_told (number_from line at)) (g : index ≡ number_told (number_from line' at')) where
        module _ (value : Option ℕ) (h : value ≡ number_told (number_from line'' at'')) where
          abbrev third : NumberAt
          third = number_after line (number_after line (number_from line at))

          told : value ≡ number_told third
          told = rw (m, b, l, a) at h

          module _ (x y z : ℕ) (p : x ≡ unwrap_or field 0) (q : y ≡ unwrap_or index 0) (r : z ≡ unwrap_or value 0) where
            abbrev read : Change
            read = record { field = x; index = y; value = z }

            read_is : read ≡ change_read (change_from line at)
            unfolding change_from
            read_is = rw (p ∙ number_value at field f, q ∙ number_value _ index (rw (l, a) at g), r ∙ number_value _ value told)

            pub change_whole : is_some value ≡ true → Ok read ≡ change_told (change_from line at)
            unfolding change_from
            change_whole e = rw (read_is, told_some third value told e)

            pub change_broken : is_some value ≡ false → Err read ≡ change_told (change_from line at)
            unfolding change_from
            change_broken e = rw (read_is, told_none third value told e)

-- A change that is told is within the line, and one that breaks off is the last.
told_ok : (b : Bool) (x change : Change) → Ok change ≡ cond b (Ok x) (Err x) → (b ≡ true) × (x ≡ change)
told_ok true x change e = (refl, sym (ap either e))
  where
    either : Result Change Change → Change
    either (Ok y) = y
    either (Err y) = y
told_ok false x change e = absurd (false≢true (sym (ap is_ok e)))

told_err : (b : Bool) (x change : Change) → Err change ≡ cond b (Ok x) (Err x) → b ≡ false
told_err true x change e = absurd (false≢true (ap is_ok e))
told_err false x change e = refl

same_change : (w : ChangeAt) (change : Change) → Ok change ≡ change_told w
    → record { found = true; field = change.field; index = change.index; value = change.value; next = w.next } ≡ w
same_change w change e = let q = told_ok w.found (change_read w) change e in rw (← q.1, ← q.0)

module _ (line : List ℕ) (at : ℕ) where
  pub change_found : (change : Change) → Ok change ≡ change_told (change_from line at)
      → (at < length line)
      × (record { found = true; field = change.field; index = change.index; value = change.value; next = (change_from line at).next } ≡ change_from line at)
  unfolding change_from
  change_found change e = (within (lt_or_le at (length line)), same_change (change_from line at) change e)
    where
      within : (at < length line) ⊎ (length line ≤ at) → at < length line
      within (inl l) = l
      within (inr l) = absurd (false≢true (sym (ap is_ok (rw (number_beyond line at l, number_past line, number_past line) at e))))

  pub change_lost : (change : Change) → Err change ≡ change_told (change_from line at)
      → ((change_from line at).found ≡ false) × ((change_from line at).next ≡ length line)
  unfolding change_from
  change_lost change e =
      let lost = told_err (change_from line at).found (change_read (change_from line at)) change e in (lost, ap (λ (n : NumberAt). n.next) (number_missing line _ lost))

-- So less is left of the line behind a number or a change.
module _ (line line' : List ℕ) (at at' : ℕ) (same : line' ≡ line) where
  pub change_less : (change : Change) → Ok change ≡ change_told (change_from line at) → at' ≡ (change_from line at).next
      → length line' - at' < length line - at
  change_less change e q = let l = (change_found line at change e).0 in rw (same, q) (omega (arith, l, change_after line at l))

  pub number_less : (x : ℕ) → Some x ≡ number_told (number_from line at) → at' ≡ (number_from line at).next → length line' - at' < length line - at
  number_less x e q = rw (same, q) (go (lt_or_le at (length line)))
    where
      go : (at < length line) ⊎ (length line ≤ at) → length line - (number_from line at).next < length line - at
      go (inl l) = omega (arith, l, number_after_lem line at l)
      go (inr l) = absurd (none-some x (sym (ap number_told (number_beyond line at l)) ∙ sym e))

pub ruleset saying = (saying_start, saying_more, saying_small, saying_end)

pub ruleset changing = (change_behind, change_whole, change_broken)
