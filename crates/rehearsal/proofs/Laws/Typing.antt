-- The line that a space holds, and the bytes that are taken up.
use Prim.Native.Nat.{ℕ, zero, suc, ◌+◌, ◌-◌, ◌≤◌, ◌<◌}
use mathlib.Core.Path.{◌≡◌, refl, sym, ◌∙◌, ap}
use mathlib.Core.Bool.{Bool, true, false}
use mathlib.Core.Logic.{◌⊎◌, inl, inr}
use mathlib.Core.List.{List, [], ◌∷◌, ◌++◌, append_assoc, append-nil}
use lib.Dec.{leb}
use lib.ListN.{length, set, take, drop, get_or, length-append, drop_of_length-le}
use lib.Seq.{sets-eq, drop-cons, length-take-le}
use borrow.Author.Tests.{le-leb, lt-leb, ne_eqb}
use native.Mathlib.Nat.{add-zero}
use native.Mathlib.Omega.{arith}
use Rattle.lists.proofs.Laws.Search.{lt_or_le}
use Rattle.slices.specs.Put.{put}
use Rattle.slices.proofs.Laws.Put.{put_room, put_full, put_stored, put_long, paste_all}
use Rattle.std.specs.Prelude.{Option, Some, None}
use Rattle.std.specs.Option.{unwrap_or}
use Rattle.std.proofs.lemmas.List.{take_at}
use Rattle.line_words.specs.Parts.{is, Reaches, FoundFrom}
use Rattle.text.specs.Put.{puts}
use Rattle.text.proofs.Laws.Put.{puts_then, puts_long}
use Rattle.call_text.specs.Lines.{alone, asked_of}
use Rattle.guarantee.specs.Runs.{State}
use Rattle.line_answers.specs.Steps.{malformed_text, carried_out, answered_to, CarriedAs}
use Rattle.rehearsal.specs.Desk.{Desk, asked_in, fed_byte, taken_up, HoldsLine, Stands, AllTaken}

-- More bytes of a line, in a space with room for them and in one without.
module _ (space : List ℕ) (kept : ℕ) (line : List ℕ) (h : HoldsLine space kept line) where
  holds_long : length space < kept ⊎ kept ≤ length space → (more : List ℕ) → length space < kept + length more → length space < length (line ++ more)
  holds_long (inl l) more m = omega (arith, length-append line more, h.longer l)
  holds_long (inr l) more m = rw (h.whole l) (omega (arith, length-append (take kept space) more, length-take-le kept space l))

  pub holds_put : (more space' : List ℕ) (kept' : ℕ) → (kept', space') ≡ put (kept, space) more → HoldsLine space' kept' (line ++ more)
  holds_put more space' kept' e = elim (lt_or_le (length space) (kept + length more)) [
    | inl l ↦
        let all : ◌≡◌ {A = ℕ × List ℕ} (kept', space') (length space + 1, space) = e ∙ put_full kept space more l in
        rw (ap (λ (s : ℕ × List ℕ). s.0) all, ap (λ (s : ℕ × List ℕ). s.1) all)
        (record { whole = λ m. absurd (omega arith); longer = λ m. holds_long (lt_or_le (length space) kept) more l })
    | inr l ↦
        let all : ◌≡◌ {A = ℕ × List ℕ} (kept', space') (kept + length more, take kept space ++ more ++ drop (kept + length more) space) =
        e ∙ put_room kept space more l in
        rw (ap (λ (s : ℕ × List ℕ). s.0) all, ap (λ (s : ℕ × List ℕ). s.1) all) (record {
          whole = λ m. rw (h.whole (omega arith))
              (sym (take_at (take kept space ++ more) (drop (kept + length more) space) (kept + length more)
              (length-append (take kept space) more ∙ ap (λ (k : ℕ). k + length more) (length-take-le kept space (omega arith)))));
          longer = λ m. absurd (omega (arith, rw (paste_all kept space more l) at m));
        })
  ]

-- One byte more, in a space with room and in one without.
module _ (space : List ℕ) (kept byte : ℕ) (line : List ℕ) (h : HoldsLine space kept line) where
  pub holds_more : kept < length space → HoldsLine (set space kept byte) (kept + 1) (line ++ (byte ∷ []))
  holds_more l =
      let room : kept + 1 ≤ length space = omega arith in
      holds_put space kept line h (byte ∷ []) (set space kept byte) (kept + 1) (put_stored kept space (byte ∷ []) (set space kept byte) room
      (sets-eq (byte ∷ []) space kept room))

  pub holds_no_more : length space ≤ kept → HoldsLine space (length space + 1) (line ++ (byte ∷ []))
  holds_no_more l = holds_put space kept line h (byte ∷ []) space (length space + 1) (sym (put_full kept space (byte ∷ []) (omega arith)))

pub holds_nothing : (space : List ℕ) → HoldsLine space 0 []
holds_nothing space = record { whole = λ m. refl; longer = λ m. absurd (omega arith) }

-- The line that ends: too long a one is malformed, and any other stands in the space.
module _ (space : List ℕ) (kept : ℕ) (σ σ' : State) (s t : ℕ × List ℕ) where
  pub held_long : length space < kept → σ' ≡ σ → t ≡ puts s malformed_text
      → (line : List ℕ) → HoldsLine space kept line → CarriedAs (answered_to (asked_in (length space) line) σ) σ' s t
  unfolding asked_in alone answered_to carried_out
  held_long l e q line h = rw (lt-leb _ _ (h.longer l)) (e, q)

  pub held_whole : kept ≤ length space → CarriedAs (answered_to (asked_of (take kept space)) σ) σ' s t
      → (line : List ℕ) → HoldsLine space kept line → CarriedAs (answered_to (asked_in (length space) line) σ) σ' s t
  unfolding asked_in
  held_whole l g line h =
      let short : length line ≤ length space = rw (h.whole l, length-take-le kept space l) l in
      rw (le-leb _ _ short, h.whole l) g

-- Some line is held, whatever is kept.
some_line : (space : List ℕ) (kept : ℕ) → (line : List ℕ) × HoldsLine space kept line
some_line space kept = elim (lt_or_le (length space) kept) [
  | inl l ↦ (0 ∷ space, record { whole = λ m. absurd (omega arith); longer = λ m. omega arith })
  | inr l ↦ (take kept space, record { whole = λ m. refl; longer = λ m. absurd (omega arith) })
]

-- A search that finds nothing comes to the end.
pub found_reaches : (mark : ℕ → Bool) (text : List ℕ) (from : ℕ) (o : Option ℕ) → FoundFrom mark text from o → Reaches mark text from (unwrap_or o (length text))
found_reaches mark text from (Some at) f = f.1
found_reaches mark text from None f = f

-- Bytes that end no line are taken up where one of them is, since they have no answer.
abbrev longer : Desk → List ℕ → Desk
longer d more = record { calls = d.calls; state = d.state; line = d.line ++ more; text = d.text }

module _ (room : ℕ) (s : ℕ × List ℕ) (bytes : List ℕ) where
  run_taken : (n i : ℕ) (d : Desk) → i + n ≤ length bytes → ((k : ℕ) → i ≤ k → k < i + n → is 10 (get_or bytes k 0) ≡ false)
      → leb ((puts s d.text).0 + 8192) (length s.1) ≡ true
      → taken_up room s d (drop i bytes) ≡ taken_up room s (longer d (take n (drop i bytes))) (drop (i + n) bytes)
  unfolding taken_up fed_byte
  run_taken zero i d l other free = rw (add-zero i, append-nil d.line)
  run_taken (suc n) i d l other free =
      let same : suc i + n ≡ i + suc n = omega arith in
      let next : Desk = longer d (get_or bytes i 0 ∷ []) in
      let ih : taken_up room s next (drop (suc i) bytes) ≡ taken_up room s (longer next (take n (drop (suc i) bytes))) (drop (suc i + n) bytes) =
      run_taken n (suc i) next (omega arith) (λ k a b. other k (omega arith) (omega arith)) free in
      rw (drop-cons bytes i 0 (omega arith), free, other i (omega arith) (omega arith))
      (rw (same, append_assoc d.line (get_or bytes i 0 ∷ []) (take n (drop (suc i) bytes))) at ih)

-- Bytes taken up: what stands after the first i of them goes on to what all of them come to.
pub record TakingUp (bytes space₀ out₀ : List ℕ) (σ₀ : State) (kept₀ i : ℕ) (σ : State) (space : List ℕ) (kept : ℕ) (t : ℕ × List ℕ) : Type 0 where
  pub within : i ≤ length bytes
  pub space_long : length space ≡ length space₀
  pub out_long : length t.1 ≡ length out₀
  pub goes : (d : Desk) → Stands (0, out₀) d σ₀ space₀ kept₀ (0, out₀)
      → (e : Desk) × Stands (0, out₀) e σ space kept t × (taken_up (length space₀) (0, out₀) e (drop i bytes) ≡ taken_up (length space₀) (0, out₀) d bytes)

module _ (bytes space₀ out₀ : List ℕ) (σ₀ : State) (kept₀ : ℕ) where
  pub taking_none : TakingUp bytes space₀ out₀ σ₀ kept₀ 0 σ₀ space₀ kept₀ (0, out₀)
  taking_none = record { within = omega arith; space_long = refl; out_long = refl; goes = λ d h. (d, h, refl) }

  module _ (i : ℕ) (σ : State) (space : List ℕ) (kept filled : ℕ) (out : List ℕ) (w : TakingUp bytes space₀ out₀ σ₀ kept₀ i σ space kept (filled, out)) where
    -- One byte with room for an answer.
    next_byte : (e : Desk) → Stands (0, out₀) e σ space kept (filled, out) → i < length bytes → leb (filled + 8192) (length out) ≡ true
        → taken_up (length space₀) (0, out₀) (fed_byte (length space₀) e (get_or bytes i 0)) (drop (i + 1) bytes) ≡ taken_up (length space₀) (0, out₀) e (drop i bytes)
    unfolding taken_up
    next_byte e h l room =
        let more : i + 1 ≡ suc i = omega arith in
        let test : leb ((puts (0, out₀) e.text).0 + 8192) (length out₀) ≡ true = rw (← h.handed, ← w.out_long) room in
        rw (more, drop-cons bytes i 0 l, test)

    pub taking_line : i < length bytes → leb (filled + 8192) (length out) ≡ true → get_or bytes i 0 ≡ 10
        → (σ' : State) (t : ℕ × List ℕ) → ((line : List ℕ) → HoldsLine space kept line → CarriedAs (answered_to (asked_in (length space) line) σ) σ' (filled, out) t)
        → TakingUp bytes space₀ out₀ σ₀ kept₀ (i + 1) σ' space 0 t
    unfolding fed_byte
    taking_line l room newline σ' t g = record {
      within = omega arith;
      space_long = w.space_long;
      out_long = long (some_line space kept) ∙ w.out_long;
      goes = λ d h. go (w.goes d h);
    }
      where
        -- An answer changes no length.
        long : (line : List ℕ) × HoldsLine space kept line → length t.1 ≡ length out
        long (line, h) = ap (λ (s : ℕ × List ℕ). length s.1) (g line h).1 ∙ puts_long (filled, out) (answered_to (asked_in (length space) line) σ).text

        answered : (e : Desk) → Stands (0, out₀) e σ space kept (filled, out) → Stands (0, out₀) (fed_byte (length space₀) e (get_or bytes i 0)) σ' space 0 t
        answered e h =
            let told = rw (w.space_long, h.at.state) at (g e.line h.at.held) in
            rw newline (record { at = record { state = told.0; held = holds_nothing space }; handed = puts_then _ _ _ _ _ h.handed told.1 })

        go : {all : Desk × List ℕ} → (e : Desk) × Stands (0, out₀) e σ space kept (filled, out) × (taken_up (length space₀) (0, out₀) e (drop i bytes) ≡ all)
            → (e : Desk) × Stands (0, out₀) e σ' space 0 t × (taken_up (length space₀) (0, out₀) e (drop (i + 1) bytes) ≡ all)
        go (e, h, q) = (fed_byte (length space₀) e (get_or bytes i 0), answered e h, next_byte e h l room ∙ q)

    -- Bytes up to an index, of which none ends a line.
    taking_some : leb (filled + 8192) (length out) ≡ true → (end : ℕ) → i ≤ end → end ≤ length bytes
        → ((k : ℕ) → i ≤ k → k < end → is 10 (get_or bytes k 0) ≡ false)
        → (space' : List ℕ) (kept' : ℕ) → (kept', space') ≡ put (kept, space) (take (end - i) (drop i bytes))
        → TakingUp bytes space₀ out₀ σ₀ kept₀ end σ space' kept' (filled, out)
    taking_some room end onward within passed space' kept' g = record {
      within = within;
      space_long = ap (λ (s : ℕ × List ℕ). length s.1) g ∙ put_long (kept, space) (take (end - i) (drop i bytes)) ∙ w.space_long;
      out_long = w.out_long;
      goes = λ d h. go (w.goes d h);
    }
      where
        upto : i + (end - i) ≡ end
        upto = omega (arith, onward)

        go : {all : Desk × List ℕ} → (e : Desk) × Stands (0, out₀) e σ space kept (filled, out) × (taken_up (length space₀) (0, out₀) e (drop i bytes) ≡ all)
            → (e : Desk) × Stands (0, out₀) e σ space' kept' (filled, out) × (taken_up (length space₀) (0, out₀) e (drop end bytes) ≡ all)
        go (e, h, q) =
            let test : leb ((puts (0, out₀) e.text).0 + 8192) (length out₀) ≡ true = rw (← h.handed, ← w.out_long) room in
            let run = run_taken (length space₀) (0, out₀) bytes (end - i) i e (omega (arith, onward, within)) (λ k a b. passed k a (omega (arith, onward))) test in (
              longer e (take (end - i) (drop i bytes)),
              record { at = record { state = h.at.state; held = holds_put space kept e.line h.at.held _ space' kept' g }; handed = h.handed },
              sym (rw upto at run) ∙ q,
            )

    -- One byte that ends no line, whatever stands behind it.
    pub taking_byte : i < length bytes → leb (filled + 8192) (length out) ≡ true → (get_or bytes i 0 ≡ 10 → ⊥)
        → (space' : List ℕ) (kept' : ℕ) → (kept', space') ≡ puts (kept, space) ((get_or bytes i 0 ∷ []) ∷ [])
        → TakingUp bytes space₀ out₀ σ₀ kept₀ (i + 1) σ space' kept' (filled, out)
    unfolding puts
    taking_byte l room other space' kept' g = taking_some room (i + 1) (omega arith) (omega arith) alone space' kept' (rw (one, drop-cons bytes i 0 l) g)
      where
        one : i + 1 - i ≡ 1
        one = omega arith

        alone : (k : ℕ) → i ≤ k → k < i + 1 → is 10 (get_or bytes k 0) ≡ false
        alone k a b = let e : k ≡ i = omega arith in rw e (ne_eqb _ _ other)

    -- The bytes before the next newline, or all that are left.
    pub taking_run : i < length bytes → leb (filled + 8192) (length out) ≡ true → (end : ℕ) → Reaches (is 10) bytes i end
        → (space' : List ℕ) (kept' : ℕ) → (kept', space') ≡ put (kept, space) (take (end - i) (drop i bytes))
        → TakingUp bytes space₀ out₀ σ₀ kept₀ end σ space' kept' (filled, out)
    taking_run l room end r = taking_some room end (omega (arith, r.onward)) r.within r.passed

    -- Where no byte is left, or no room, what stands is what all come to.
    pub taken_all : length bytes ≤ i → AllTaken bytes space₀ out₀ σ₀ kept₀ i σ space kept (filled, out)
    unfolding taken_up
    taken_all l = (w.within, λ d h. go (w.goes d h))
      where
        go : {all : Desk × List ℕ} → (e : Desk) × Stands (0, out₀) e σ space kept (filled, out) × (taken_up (length space₀) (0, out₀) e (drop i bytes) ≡ all)
            → Stands (0, out₀) all.0 σ space kept (filled, out) × (drop i bytes ≡ all.1)
        go (e, h, q) = let none : drop i bytes ≡ [] = drop_of_length-le bytes l in rw (← q, none) (h, refl)

    pub taken_full : i < length bytes → leb (filled + 8192) (length out) ≡ false → AllTaken bytes space₀ out₀ σ₀ kept₀ i σ space kept (filled, out)
    unfolding taken_up
    taken_full l full = (w.within, λ d h. go (w.goes d h))
      where
        stays : (e : Desk) → Stands (0, out₀) e σ space kept (filled, out) → taken_up (length space₀) (0, out₀) e (drop i bytes) ≡ (e, drop i bytes)
        stays e h =
            let test : leb ((puts (0, out₀) e.text).0 + 8192) (length out₀) ≡ false = rw (← h.handed, ← w.out_long) full in
            rw (drop-cons bytes i 0 l, test)

        go : {all : Desk × List ℕ} → (e : Desk) × Stands (0, out₀) e σ space kept (filled, out) × (taken_up (length space₀) (0, out₀) e (drop i bytes) ≡ all)
            → Stands (0, out₀) all.0 σ space kept (filled, out) × (drop i bytes ≡ all.1)
        go (e, h, q) = rw (← q, stays e h) (h, refl)

-- The same of the memory that was lent, over which the pages lie.
module _ (bytes space₀ out₀ : List ℕ) (σ₀ : State) (kept₀ i : ℕ) (σ : State) (space : List ℕ) (kept filled : ℕ) (out : List ℕ)
    (w : AllTaken bytes space₀ out₀ σ₀ kept₀ i σ space kept (filled, out))
  where
    pub taken_of_lent : (space₁ out₁ space' out' : List ℕ) (kept₁ j filled₁ : ℕ) → ◌≡◌ {A = ℕ × List ℕ} (kept₀, space₀) (kept₁, space₁) → ◌≡◌ {A = ℕ × List ℕ} (filled₁, out₀) (0, out₁)
        → space ≡ space' → out ≡ out' → j ≡ i → AllTaken bytes space₁ out₁ σ₀ kept₁ j σ space' kept (filled, out')
    taken_of_lent space₁ out₁ space' out' kept₁ j filled₁ p q e f k =
        let p₀ : kept₁ ≡ kept₀ = ap (λ (s : ℕ × List ℕ). s.0) (sym p) in
        let p₁ : space₁ ≡ space₀ = ap (λ (s : ℕ × List ℕ). s.1) (sym p) in
        let q₁ : out₁ ≡ out₀ = ap (λ (s : ℕ × List ℕ). s.1) (sym q) in
        rw (p₀, p₁, q₁, ← e, ← f, k) w
