-- Decimal digits: they are the fewest, and they say the number again.
use Prim.Native.Nat.{ℕ, zero, suc, ◌+◌, ◌-◌, ◌*◌, ◌/◌, ◌%◌, ◌^◌, ◌≤◌, ◌<◌}
use mathlib.Core.Path.{◌≡◌, refl, sym, ◌∙◌, ap, subst}
use mathlib.Core.Bool.{Bool, true, false, cond, ◌&&◌}
use mathlib.Core.List.{List, [], ◌∷◌, ◌++◌}
use mathlib.Core.Logic.{◌⊎◌, inl, inr}
use lib.ListN.{length, get_or, take, length-append, get_or-append}
use borrow.Author.Tests.{lt-ltb, le-ltb, le-leb}
use native.Mathlib.Decide.{dec_lt}
use native.Mathlib.Nat.{pow-suc}
use native.Mathlib.Omega.{arith}
use Rattle.io.specs.Digits.{last_digits, hex_digit_ascii, IsDigitCount}
use Rattle.text.specs.Decimal.{digits_by, decimal, value_from, value_of, is_digit, all_digits, given, is_number}

lt_or_le : (a b : ℕ) → (a < b) ⊎ (b ≤ a)
lt_or_le a b = elim (dec_lt a b) [ yes l ↦ inl l | no m ↦ inr (omega arith) ]

-- One digit, and more than one.
one_digit : (k n : ℕ) → n < 10 → digits_by k n ≡ (48 + n) ∷ []
unfolding digits_by
one_digit zero n l = refl
one_digit (suc k) n l = ap (λ (few : Bool). cond few ((48 + n) ∷ []) (digits_by k (n / 10) ++ ((48 + n % 10) ∷ []))) (lt-ltb n 10 l)

more_digits : (k n : ℕ) → 10 ≤ n → digits_by (suc k) n ≡ digits_by k (n / 10) ++ ((48 + n % 10) ∷ [])
unfolding digits_by
more_digits k n l = ap (λ (few : Bool). cond few ((48 + n) ∷ []) (digits_by k (n / 10) ++ ((48 + n % 10) ∷ []))) (le-ltb n 10 l)

-- Steps beyond n change nothing.
steps_alike : (k j n : ℕ) → n ≤ k → n ≤ j → digits_by k n ≡ digits_by j n
steps_alike zero j n a b = one_digit zero n (omega arith) ∙ sym (one_digit j n (omega arith))
steps_alike (suc k) zero n a b = one_digit (suc k) n (omega arith) ∙ sym (one_digit zero n (omega arith))
steps_alike (suc k) (suc j) n a b = elim (lt_or_le n 10) [
  | inl l ↦ one_digit (suc k) n l ∙ sym (one_digit (suc j) n l)
  | inr l ↦
      more_digits k n l
      ∙ ap (λ (ds : List ℕ). ds ++ ((48 + n % 10) ∷ [])) (steps_alike k j (n / 10) (omega arith) (omega arith))
      ∙ sym (more_digits j n l)
]

pub decimal_step : (n : ℕ) → 10 ≤ n → decimal n ≡ decimal (n / 10) ++ ((48 + n % 10) ∷ [])
unfolding decimal
decimal_step n l =
    steps_alike n (suc n) n (omega arith) (omega arith)
    ∙ more_digits n n l
    ∙ ap (λ (ds : List ℕ). ds ++ ((48 + n % 10) ∷ [])) (steps_alike n (n / 10) (n / 10) (omega arith) (omega arith))

pub decimal_one : (n : ℕ) → n < 10 → decimal n ≡ (48 + n) ∷ []
unfolding decimal
decimal_one n l = one_digit n n l

-- What holds of one digit, and of more digits where it holds of all but the last, holds of all numbers.
pub by_digits : (P : ℕ → Type 0) → ((n : ℕ) → n < 10 → P n) → ((n : ℕ) → 10 ≤ n → P (n / 10) → P n) → (n : ℕ) → P n
by_digits P one more n = go n n (omega arith)
  where
    go : (k n : ℕ) → n ≤ k → P n
    go zero n l = one n (omega arith)
    go (suc k) n l = elim (lt_or_le n 10) [ inl a ↦ one n a | inr a ↦ more n a (go k (n / 10) (omega arith)) ]

value_append : (v : ℕ) (xs ys : List ℕ) → value_from v (xs ++ ys) ≡ value_from (value_from v xs) ys
unfolding value_from
value_append v [] ys = refl
value_append v (x ∷ xs) ys = value_append (v * 10 + (x - 48)) xs ys

-- The digits of n say n.
pub decimal_value : (n : ℕ) → value_of (decimal n) ≡ n
unfolding value_of value_from
decimal_value = by_digits (λ (n : ℕ). value_of (decimal n) ≡ n)
    (λ n l. rw (decimal_one n l) (omega arith))
    (λ n l e. rw (decimal_step n l) (value_append 0 (decimal (n / 10)) ((48 + n % 10) ∷ []) ∙ last n (value_of (decimal (n / 10))) e))
  where
    last : (n v : ℕ) → v ≡ n / 10 → v * 10 + (48 + n % 10 - 48) ≡ n
    last n v e = omega arith

-- They are digits alone, one at least.
digit_is_lem : (c : ℕ) → 48 ≤ c → c ≤ 57 → is_digit c ≡ true
unfolding is_digit
digit_is_lem c a b = rw (le-leb _ _ a, le-leb _ _ b)

digits_append : (xs : List ℕ) (c : ℕ) → all_digits xs ≡ true → is_digit c ≡ true → all_digits (xs ++ (c ∷ [])) ≡ true
unfolding all_digits
digits_append [] c a e = rw e
digits_append (x ∷ xs) c a e = go (is_digit x) a (λ b. digits_append xs c b e)
  where
    go : (t : Bool) → (t && all_digits xs) ≡ true → (all_digits xs ≡ true → all_digits (xs ++ (c ∷ [])) ≡ true) → (t && all_digits (xs ++ (c ∷ []))) ≡ true
    go true a more = more a
    go false a more = a

pub decimal_digits : (n : ℕ) → all_digits (decimal n) ≡ true
unfolding all_digits
decimal_digits = by_digits (λ (n : ℕ). all_digits (decimal n) ≡ true)
    (λ n l. rw (decimal_one n l, digit_is_lem (48 + n) (omega arith) (omega arith)))
    (λ n l e. rw (decimal_step n l) (digits_append (decimal (n / 10)) (48 + n % 10) e (digit_is_lem (48 + n % 10) (omega arith) (omega arith))))

pub decimal_long : (n : ℕ) → 1 ≤ length (decimal n)
decimal_long = by_digits (λ (n : ℕ). 1 ≤ length (decimal n))
    (λ n l. rw (decimal_one n l) (omega arith))
    (λ n l e. rw (decimal_step n l, length-append) (omega arith))

-- So they are a word, and a number of at most m where n is.
given_long : (word : List ℕ) → 1 ≤ length word → given word ≡ true
unfolding given
given_long [] l = absurd (omega arith)
given_long (c ∷ cs) l = refl

pub decimal_given : (n : ℕ) → given (decimal n) ≡ true
decimal_given n = given_long (decimal n) (decimal_long n)

pub decimal_number : (n m : ℕ) → n ≤ m → is_number (decimal n) m ≡ true
unfolding is_number
decimal_number n m l = rw (decimal_given n, decimal_digits n, decimal_value n) (le-leb n m l)

-- A number above 0 does not begin with the digit 0.
pub decimal_first : (n : ℕ) → 1 ≤ n → 48 < get_or (decimal n) 0 0
decimal_first = by_digits (λ (n : ℕ). 1 ≤ n → 48 < get_or (decimal n) 0 0)
    (λ n l a. rw (decimal_one n l) (omega arith))
    (λ n l e a. rw (decimal_step n l, get_or-append (decimal (n / 10)) ((48 + n % 10) ∷ []) 0 0 (decimal_long (n / 10))) (e (omega arith)))

-- A number below the j-th power of ten has at most j digits.
pub decimal_short : (j n : ℕ) → n < 10 ^ j → 1 ≤ j → length (decimal n) ≤ j
decimal_short zero n l a = absurd (omega arith)
decimal_short (suc zero) n l a = rw (decimal_one n l) (omega arith)
decimal_short (suc (suc j)) n l a = elim (lt_or_le n 10) [
  | inl one ↦ rw (decimal_one n one) (omega arith)
  | inr more ↦
      let p : 10 ^ suc (suc j) ≡ 10 ^ suc j * 10 = pow-suc 10 (suc j) in
      let e : length (decimal (n / 10)) ≤ suc j = decimal_short (suc j) (n / 10) (omega arith) (omega arith) in
      rw (decimal_step n more, length-append) (omega arith)
]

pow_one : (k : ℕ) → 1 ≤ 10 ^ k
pow_one zero = omega arith
pow_one (suc k) = let p : 10 ^ suc k ≡ 10 ^ k * 10 = pow-suc 10 k in let o : 1 ≤ 10 ^ k = pow_one k in omega arith

-- The fewest digits that hold n are its decimal digits.
fewest_decimal : (k n : ℕ) → IsDigitCount 10 1 n k → last_digits 10 k n ≡ decimal n
fewest_decimal zero n (a, l, m) = absurd (omega arith)
fewest_decimal (suc zero) n (a, l, m) = sym (decimal_one n l ∙ rw (lt-ltb (n % 10) 10 (omega arith)) (ap (λ (c : ℕ). (48 + c) ∷ []) (omega arith)))
fewest_decimal (suc (suc k)) n (a, l, m) =
    let big : 10 ^ suc k ≤ n = subst (λ (j : ℕ). 10 ^ j ≤ n) (omega arith) (m (omega arith)) in
    let p : 10 ^ suc (suc k) ≡ 10 ^ suc k * 10 = pow-suc 10 (suc k) in
    let q : 10 ^ suc k ≡ 10 ^ k * 10 = pow-suc 10 k in
    let o : 1 ≤ 10 ^ k = pow_one k in
    let small : 10 ^ k ≤ n / 10 = omega arith in
    let e : last_digits 10 (suc k) (n / 10) ≡ decimal (n / 10) =
    fewest_decimal (suc k) (n / 10) (omega arith, omega arith, λ s. subst (λ (j : ℕ). 10 ^ j ≤ n / 10) (omega arith) small) in
    ap (λ (ds : List ℕ). ds ++ (hex_digit_ascii (n % 10) ∷ [])) e ∙ rw (lt-ltb (n % 10) 10 (omega arith)) (sym (decimal_step n (omega arith)))

pub spelled : (k n : ℕ) (ds : List ℕ) → take k ds ≡ last_digits 10 k n → IsDigitCount 10 1 n k → take k ds ≡ decimal n
spelled k n ds e f = e ∙ fewest_decimal k n f
