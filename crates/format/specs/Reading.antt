-- 01, Plan bytes: a file is read one command after the other, up to END. What commands there are, and what they mean, plans and schedules say for themselves.
use Rattle.std.specs.Prelude.{ℕ, zero, suc, ◌+◌, cond, List, eqb, ltb, length, get_or}
use Rattle.rulings.specs.Outcome.{Outcome, accepted, refused}

-- A kind of file: what has been read of it is an A, and the whole comes to a B. `size` is how many bytes a command takes, by its first one, and 0 where there is no
-- such command. `later` is the first check behind 3 and 2 that the command at an index fails, 0 where it fails none, and `after` what has been read once it
-- has passed. `end` is what END at an index of so many bytes comes to.
pub record Kind (A B : Type 0) : Type 0 where
  pub size : ℕ → ℕ
  pub later : List ℕ → ℕ → A → ℕ
  pub after : List ℕ → ℕ → A → A
  pub end : ℕ → ℕ → A → Outcome B

-- 01, the order of a command's checks: the number of the first that the one at index `at` fails, 0 where it fails none. 3 where there is no such command, 2 where
-- not all of its bytes are there, and then its own.
unfoldable pub fault_of : {A B : Type 0} → Kind A B → List ℕ → ℕ → A → ℕ
fault_of k bytes at a =
    cond (eqb (k.size (get_or bytes at 0)) 0) 3
    (cond (ltb (length bytes) (at + k.size (get_or bytes at 0))) 2
    (k.later bytes at a))

-- 01, the check of END, 10: END at index `at` of so many bytes. By 02, U3, nothing need stand before it.
unfoldable pub ended : {B : Type 0} → ℕ → ℕ → B → Outcome B
ended size at b = cond (ltb (at + 1) size) (refused 10 (at + 1)) (accepted b)

-- One command after the other from index `at` on; END is FF. Where the bytes end without END: 2, at their length. The first number is how many commands are
-- allowed; the number of bytes is always enough.
unfoldable pub read_from : {A B : Type 0} → Kind A B → ℕ → List ℕ → ℕ → A → Outcome B
read_from k zero bytes at a = refused 2 (length bytes)
read_from k (suc steps) bytes at a =
    cond (ltb at (length bytes))
    (cond (eqb (get_or bytes at 0) 255) (k.end (length bytes) at a)
    (cond (eqb (fault_of k bytes at a) 0) (read_from k steps bytes (at + k.size (get_or bytes at 0)) (k.after bytes at a)) (refused (fault_of k bytes at a) at)))
    (refused 2 (length bytes))
