-- What every operation comes to, in the terms of 01's tables of refusals.
use Rattle.std.specs.Prelude.{ℕ, cond, ◌≡◌, ◌⊎◌, eqb, Result, Ok, Err}
use Rattle.rulings.specs.declared.Fault.{Fault}
use Rattle.rulings.specs.declared.Fault.TheVariants.{WrongLength, CutOff, UnknownCommand, NodeBehindFlow, OutsideLimits, OutOfPlace, TooManyNodes, TooDeep, BytesBehindEnd, Crowded, AboveCapacity, AboveDeadline, NoSite, NumberLive, NumberNotLive, NoRoom, TooLate, TooManyPackets, StrayArrivals, LinkOutOfOrder, SlotsOutside}
use Rattle.rulings.specs.declared.Refusal.{Refusal}

-- Accepted, with what the operation gives, or refused with a number and a place.
pub data Outcome (A : Type 0) : Type 0 where
  accepted : A → Outcome A
  refused : ℕ → ℕ → Outcome A

-- Accepted, or refused with a number and a place: the outcome of a call that gives nothing besides.
abbrev pub Ruling : Type 0
Ruling = Outcome (Unit {0})

-- A check that tells the number of what fails, 0 where nothing does, and has place 0; then the checks behind it.
unfoldable pub checked : {A : Type 0} → ℕ → Outcome A → Outcome A
checked number others = cond (eqb number 0) others (refused number 0)

-- 01, refusals: a refused call leaves what was there.
unfoldable pub settled : {A B : Type 0} → Outcome A → B → B → B
settled (accepted a) new old = new
settled (refused number place) new old = old

-- A ruling, with what is given where it accepts.
abbrev pub given : {A : Type 0} → Ruling → A → Outcome A
given (accepted a) x = accepted x
given (refused number place) x = refused number place

-- 01, by-value results: an accepted call gives its own, and a refused one gives this other.
unfoldable pub or_else : {A : Type 0} → A → Outcome A → Ruling × A
or_else other (accepted a) = (accepted tt, a)
or_else other (refused number place) = (refused number place, other)

-- Checks in an order, each with its number and with what fails it at a place.
pub data Checks : Type 1 where
  none : Checks
  check : ℕ → (ℕ → Type 0) → Checks → Checks

-- A check fails: it refuses, with its number, at a place where it fails.
abbrev pub FailsAt : {A : Type 0} → ℕ → (ℕ → Type 0) → Outcome A → Type 0
FailsAt number fails o = (p : ℕ) × (o ≡ refused number p) × fails p

-- A check is passed: there is no place where it fails.
abbrev pub Passed : (ℕ → Type 0) → Type 0
Passed fails = (p : ℕ) → fails p → ⊥

-- 01's first failing check, in words: an outcome is refused by the first check that fails, at the place where it fails; where none does, it is
-- accepted with something that is as it should be.
unfoldable pub Ruled : {A : Type 0} → (A → Type 0) → Checks → Outcome A → Type 0
Ruled {A = A} gives none o = (a : A) × (o ≡ accepted a) × gives a
Ruled gives (check number fails rest) o = FailsAt number fails o ⊎ (Passed fails × Ruled gives rest o)

-- An accepted call gives nothing but its acceptance.
abbrev pub nothing : Unit {0} → Type 0
nothing a = Unit {0}

-- 01 and 02: the number of each fault in their tables of refusals.
abbrev pub number_of : Fault → ℕ
number_of WrongLength = 1
number_of CutOff = 2
number_of UnknownCommand = 3
number_of NodeBehindFlow = 4
number_of OutsideLimits = 5
number_of OutOfPlace = 6
number_of TooManyNodes = 7
number_of TooDeep = 8
number_of BytesBehindEnd = 10
number_of Crowded = 11
number_of AboveCapacity = 12
number_of AboveDeadline = 13
number_of NoSite = 14
number_of NumberLive = 15
number_of NumberNotLive = 16
number_of NoRoom = 17
number_of TooLate = 18
number_of TooManyPackets = 19
number_of StrayArrivals = 20
number_of LinkOutOfOrder = 21
number_of SlotsOutside = 22

-- What an answer says in 01's terms: what an accepted call gives, or the number and the place of a refusal.
abbrev pub outcome : {A : Type 0} → Result A Refusal → Outcome A
outcome (Ok a) = accepted a
outcome (Err r) = refused (number_of r.fault) r.place

-- The number of what a check finds at fault, 0 where it finds nothing.
abbrev pub fault_number : {A : Type 0} → Result A Fault → ℕ
fault_number (Ok a) = 0
fault_number (Err f) = number_of f
