-- The reading of commands, whatever they are: one law for each thing that can be met at an index, how far a reading comes, and that bytes which agree up to there
-- are read alike.
use Prim.Native.Nat.{ℕ, zero, suc, ◌+◌, ◌<◌, ◌≤◌}
use mathlib.Core.Path.{◌≡◌, refl, sym, ◌∙◌, ap}
use mathlib.Core.Bool.{cond}
use mathlib.Core.List.{List}
use mathlib.Core.Logic.{◌⊎◌, inl, inr}
use lib.Dec.{eqb, ltb}
use lib.ListN.{length, get_or, take}
use lib.Seq.{length-take-le, take_all, get_or-take}
use borrow.Author.Tests.{lt-ltb, le-ltb, eq-eqb, ne_eqb, ltb-false, eqb-true, eqb-false}
use native.Mathlib.Decide.{ℕ_discrete}
use native.Mathlib.Omega.{arith}
use Rattle.rulings.specs.declared.Fault.{Fault}
use Rattle.rulings.specs.Outcome.{Outcome, accepted, refused, number_of}
use Rattle.rulings.proofs.Laws.Choices.{cond_same, passed}
use Rattle.rulings.proofs.Laws.Faults.{number_some}
use Rattle.lists.proofs.Laws.Search.{lt_or_le}
use Rattle.format.specs.Reading.{Kind, fault_of, ended, read_from}

-- As many steps as there are bytes are enough from every index on.
unfoldable pub read_on : {A B : Type 0} → Kind A B → List ℕ → ℕ → A → Outcome B
read_on k bytes at a = read_from k (length bytes) bytes at a

-- Where a reading stops: at the end of the bytes, at END, or at a command that fails a check.
pub data Stop {A B : Type 0} (k : Kind A B) (bytes : List ℕ) (at : ℕ) (a : A) : Type 0 where
  out : at ≡ length bytes → Stop k bytes at a
  end : at < length bytes → get_or bytes at 0 ≡ 255 → Stop k bytes at a
  fails : at < length bytes → (get_or bytes at 0 ≡ 255 → ⊥) → (fault_of k bytes at a ≡ 0 → ⊥) → Stop k bytes at a

module _ {A B : Type 0} (k : Kind A B) (bytes : List ℕ) where
  module _ (at : ℕ) (a : A) where
    -- A command that passes is known, lies within the bytes, and passes its own checks.
    pub fault_passed : fault_of k bytes at a ≡ 0
        → (1 ≤ k.size (get_or bytes at 0)) × (at + k.size (get_or bytes at 0) ≤ length bytes) × (k.later bytes at a ≡ 0)
    unfolding fault_of
    fault_passed e =
        let tag = passed (eqb (k.size (get_or bytes at 0)) 0) 3 _ (omega arith) e in
        let whole = passed (ltb (length bytes) (at + k.size (get_or bytes at 0))) 2 _ (omega arith) tag.1 in
        let some : k.size (get_or bytes at 0) ≡ 0 → ⊥ = eqb-false _ _ tag.0 in
        (omega arith, ltb-false _ _ whole.0, whole.1)

    -- Its own checks, where it is known and lies within the bytes. m stands for its size.
    pub fault_later : (m : ℕ) → m ≡ k.size (get_or bytes at 0) → (m ≡ 0 → ⊥) → at + m ≤ length bytes → (r : ℕ) → r ≡ k.later bytes at a
        → r ≡ fault_of k bytes at a
    unfolding fault_of
    fault_later m is known l r q = rw (← is, ne_eqb _ _ known, le-ltb (length bytes) (at + m) l) q

  -- Steps beyond the number of bytes left change nothing.
  read_fuel : (f g at : ℕ) (a : A) → length bytes ≤ at + f → length bytes ≤ at + g → read_from k f bytes at a ≡ read_from k g bytes at a
  unfolding read_from
  read_fuel zero zero at a p q = refl
  read_fuel zero (suc g) at a p q = simp (le-ltb at (length bytes) (omega arith))
  read_fuel (suc f) zero at a p q = simp (le-ltb at (length bytes) (omega arith))
  read_fuel (suc f) (suc g) at a p q =
      cond_same (ltb at (length bytes))
      (λ _. cond_same (eqb (get_or bytes at 0) 255) (λ _. refl)
      (λ _. cond_same (eqb (fault_of k bytes at a) 0)
      (λ e. let w = fault_passed at a (eqb-true _ _ e) in
      read_fuel f g (at + k.size (get_or bytes at 0)) (k.after bytes at a) (omega (arith, w.0)) (omega (arith, w.0)))
      (λ _. refl)))
      (λ _. refl)

  module _ (at : ℕ) (a : A) where
    -- One step more than there are bytes, so that the first can be seen.
    read_step : read_on k bytes at a ≡ read_from k (suc (length bytes)) bytes at a
    unfolding read_on
    read_step = read_fuel (length bytes) (suc (length bytes)) at a (omega arith) (omega arith)

    pub read_out : length bytes ≤ at → read_on k bytes at a ≡ refused 2 (length bytes)
    unfolding read_from
    read_out h = read_step ∙ simp (le-ltb _ _ h)

    pub read_end : at < length bytes → get_or bytes at 0 ≡ 255 → read_on k bytes at a ≡ k.end (length bytes) at a
    unfolding read_from
    read_end h e = read_step ∙ simp (lt-ltb _ _ h, eq-eqb _ _ e)

    pub read_stop : at < length bytes → (get_or bytes at 0 ≡ 255 → ⊥) → (fault_of k bytes at a ≡ 0 → ⊥)
        → read_on k bytes at a ≡ refused (fault_of k bytes at a) at
    unfolding read_from
    read_stop h t e = read_step ∙ simp (lt-ltb _ _ h, ne_eqb _ _ t, ne_eqb _ _ e)

    -- The same of a fault that is found.
    pub read_fault : at < length bytes → (get_or bytes at 0 ≡ 255 → ⊥) → (f : Fault) → number_of f ≡ fault_of k bytes at a
        → read_on k bytes at a ≡ refused (number_of f) at
    read_fault h t f e = rw e (read_stop h t (λ z. number_some f (e ∙ z)))

    pub read_go : at < length bytes → (get_or bytes at 0 ≡ 255 → ⊥) → fault_of k bytes at a ≡ 0
        → read_on k bytes at a ≡ read_on k bytes (at + k.size (get_or bytes at 0)) (k.after bytes at a)
    unfolding read_from read_on
    read_go h t e = read_step ∙ simp (lt-ltb _ _ h, ne_eqb _ _ t, eq-eqb _ _ e)

  -- What holds at the start and is kept by each command that passes holds where the reading stops. r is how many bytes are left at most.
  module _ (Holds : ℕ → A → Type 0) (within : (at : ℕ) (a : A) → Holds at a → at ≤ length bytes)
      (keeps : (at : ℕ) (a : A) → Holds at a → at < length bytes → (get_or bytes at 0 ≡ 255 → ⊥) → fault_of k bytes at a ≡ 0
      → Holds (at + k.size (get_or bytes at 0)) (k.after bytes at a)) where
    abbrev Stopped : Type 0
    Stopped = (m : ℕ) × (b : A) × Holds m b × Stop k bytes m b

    stops_from : (r at : ℕ) (a : A) → length bytes ≤ at + r → Holds at a → Stopped
    stops_from zero at a h w = (at, a, w, out (omega (arith, within at a w)))
    stops_from (suc r) at a h w =
        go (lt_or_le at (length bytes)) (ℕ_discrete (get_or bytes at 0) 255) (ℕ_discrete (fault_of k bytes at a) 0) (stops_from r)
      where
        go : (at < length bytes) ⊎ (length bytes ≤ at) → Dec (get_or bytes at 0 ≡ 255) → Dec (fault_of k bytes at a ≡ 0)
            → ((at : ℕ) (a : A) → length bytes ≤ at + r → Holds at a → Stopped) → Stopped
        go (inr l) b f on = (at, a, w, out (omega (arith, within at a w)))
        go (inl l) (yes b) f on = (at, a, w, end l b)
        go (inl l) (no b) (no f) on = (at, a, w, fails l b f)
        go (inl l) (no b) (yes f) on = on _ _ (omega (arith, (fault_passed at a f).0)) (keeps at a w l b f)

    pub stops : (a : A) → Holds 0 a → Stopped
    stops a w = stops_from (length bytes) 0 a (omega arith) w

-- The two ways that END ends.
module _ {B : Type 0} (size at : ℕ) (b : B) where
  pub ended_more : at + 1 < size → ended size at b ≡ refused 10 (at + 1)
  unfolding ended
  ended_more l = rw (lt-ltb _ _ l)

  pub ended_last : size ≤ at + 1 → ended size at b ≡ accepted b
  unfolding ended
  ended_last l = rw (le-ltb _ _ l)

-- Where a byte stands after END, how many there are does not matter.
pub ended_alike : {B : Type 0} (m n at : ℕ) → at + 1 < m → at + 1 < n → (b : B) → ended m at b ≡ ended n at b
ended_alike m n at l k b = ended_more m at b l ∙ sym (ended_more n at b k)

-- Bytes that agree in the first 1,024 places.
pub record Agreeing (xs ys : List ℕ) : Type 0 where
  pub left : 1024 ≤ length xs
  pub right : 1024 ≤ length ys
  pub same : (i : ℕ) → i < 1024 → get_or xs i 0 ≡ get_or ys i 0

-- A kind of file of which the first 1,024 bytes settle a reading: with what `Within` says no command begins behind index 762, none has more than six bytes, and the
-- checks look at nothing but a command's bytes and what has been read.
pub record Settled {A B : Type 0} (k : Kind A B) (Within : ℕ → A → Type 0) : Type 0 where
  pub most : (at : ℕ) (a : A) → Within at a → at ≤ 762
  pub short : (tag : ℕ) → k.size tag ≤ 6
  pub kept : (bytes : List ℕ) (at : ℕ) (a : A) → Within at a → fault_of k bytes at a ≡ 0 → Within (at + k.size (get_or bytes at 0)) (k.after bytes at a)
  pub later_alike : (xs ys : List ℕ) → Agreeing xs ys → (at : ℕ) → at + 5 < 1024 → (a : A) → k.later xs at a ≡ k.later ys at a
  pub after_alike : (xs ys : List ℕ) → Agreeing xs ys → (at : ℕ) → at + 5 < 1024 → (a : A) → k.after xs at a ≡ k.after ys at a
  pub end_alike : (m n at : ℕ) → at + 1 < m → at + 1 < n → (a : A) → k.end m at a ≡ k.end n at a

module _ {A B : Type 0} (k : Kind A B) (Within : ℕ → A → Type 0) (s : Settled k Within) where
  -- What a step comes to where a byte is left.
  abbrev step_from : ℕ → List ℕ → ℕ → A → Outcome B
  step_from steps bytes at a =
      cond (eqb (get_or bytes at 0) 255) (k.end (length bytes) at a)
      (cond (eqb (fault_of k bytes at a) 0) (read_from k steps bytes (at + k.size (get_or bytes at 0)) (k.after bytes at a)) (refused (fault_of k bytes at a) at))

  module _ (xs ys : List ℕ) (w : Agreeing xs ys) where
    module _ (at : ℕ) (room : at + 5 < 1024) where
      tag_alike : get_or xs at 0 ≡ get_or ys at 0
      tag_alike = w.same at (omega arith)

      fault_alike : (a : A) → fault_of k xs at a ≡ fault_of k ys at a
      unfolding fault_of
      fault_alike a =
          let l : at + k.size (get_or ys at 0) ≤ length xs = omega (arith, w.left, s.short (get_or ys at 0)) in
          let m : at + k.size (get_or ys at 0) ≤ length ys = omega (arith, w.right, s.short (get_or ys at 0)) in
          rw (tag_alike, s.later_alike xs ys w at room a, le-ltb _ _ l, le-ltb _ _ m)

      step_alike : (f g : ℕ) (a : A)
          → (fault_of k ys at a ≡ 0
          → read_from k f xs (at + k.size (get_or ys at 0)) (k.after ys at a) ≡ read_from k g ys (at + k.size (get_or ys at 0)) (k.after ys at a))
          → step_from f xs at a ≡ step_from g ys at a
      step_alike f g a next =
          rw (tag_alike, fault_alike a, s.after_alike xs ys w at room a)
          (cond_same (eqb (get_or ys at 0) 255) (λ _. s.end_alike (length xs) (length ys) at (omega (arith, w.left)) (omega (arith, w.right)) a)
          (λ _. cond_same (eqb (fault_of k ys at a) 0) (λ e. next (eqb-true _ _ e)) (λ _. refl)))

    -- The steps never run out before the answer.
    alike_from : (f g at : ℕ) (a : A) → Within at a → 1024 ≤ at + f → 1024 ≤ at + g → read_from k f xs at a ≡ read_from k g ys at a
    unfolding read_from
    alike_from zero g at a h p q = absurd (omega (arith, s.most at a h))
    alike_from (suc f) zero at a h p q = absurd (omega (arith, s.most at a h))
    alike_from (suc f) (suc g) at a h p q =
        let l : at < length xs = omega (arith, w.left, s.most at a h) in
        let m : at < length ys = omega (arith, w.right, s.most at a h) in
        simp (lt-ltb _ _ l, lt-ltb _ _ m)
        (step_alike at (omega (arith, s.most at a h)) f g a
        (λ e. let some = (fault_passed k ys at a e).0 in
        alike_from f g (at + k.size (get_or ys at 0)) (k.after ys at a) (s.kept ys at a h e) (omega arith) (omega arith)))

  -- The first 1,024 bytes settle every reading.
  pub read_first : (a : A) → Within 0 a → (bytes : List ℕ) (n : ℕ) → 1024 ≤ n
      → read_from k (length (take n bytes)) (take n bytes) 0 a ≡ read_from k (length bytes) bytes 0 a
  read_first a start bytes n h = go (lt_or_le n (length bytes))
    where
      go : (n < length bytes) ⊎ (length bytes ≤ n) → read_from k (length (take n bytes)) (take n bytes) 0 a ≡ read_from k (length bytes) bytes 0 a
      go (inl l) =
          let long : length (take n bytes) ≡ n = length-take-le n bytes (omega arith) in
          alike_from (take n bytes) bytes (record {
            left = rw long h;
            right = omega arith;
            same = λ i m. get_or-take n bytes i 0 (omega arith);
          }) (length (take n bytes)) (length bytes) 0 a start (omega arith) (omega arith)
      go (inr m) = ap (λ (xs : List ℕ). read_from k (length xs) xs 0 a) (take_all n bytes m)
