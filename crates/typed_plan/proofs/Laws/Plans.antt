-- All lines of a typed plan, read one after the other.
use Prim.Native.Nat.{ℕ, suc, ◌+◌, ◌*◌, ◌≤◌, ◌<◌}
use mathlib.Core.Path.{◌≡◌, refl, sym, ◌∙◌, ap}
use mathlib.Core.Bool.{Bool, true, false, cond}
use mathlib.Core.List.{List, [], ◌∷◌, ◌++◌}
use lib.Dec.{eqb}
use lib.ListN.{length, get_or, drop, drop_of_length-le}
use lib.Seq.{drop-cons}
use native.Mathlib.Numerals.{add-one}
use Rattle.std.specs.List.{slice_split, onto_first, enumerate_from}
use Rattle.std.proofs.lemmas.List.FromFn.{length-enumerate_from, get_or-enumerate_from}
use borrow.Author.Tests.{lt-ltb, le-ltb}
use native.Mathlib.Nat.{zero-add}
use native.Mathlib.Omega.{arith}
use Rattle.format.specs.Bytes.{bytes_of}
use Rattle.text.specs.Put.{puts, text_of}
use Rattle.text.proofs.Laws.Put.{puts_then, puts_whole, text_append}
use Rattle.line_words.specs.Parts.{onto, parts, is, lines_of}
use Rattle.typed_line.specs.declared.Command.{Command}
use Rattle.typed_line.specs.declared.Command.TheVariants.{Node as node, Flow as flow}
use Rattle.typed_line.specs.Lines.{Typed, Nothing, Node, Flow, Bad, command_said, typed, typed_line}
use Rattle.std.specs.Prelude.{Option, Some, None, Ok, Err}
use Rattle.typed_plan.specs.declared.AssembleError.{AssembleError}
use Rattle.typed_plan.specs.declared.AssembleError.TheVariants.{WrongLine, NoRoom, TooLong}
use Rattle.typed_plan.specs.Assemble.{Assembled, Length, BadLine, Short, Long, assembled}
use Rattle.typed_plan.specs.Assemble.{piece_of, pieces_of, plan_typed, wrong_or, first_wrong, stored_plan, assembled_of}

pub piece_short : (t : Typed) → length (text_of (piece_of t)) ≤ 6
unfolding piece_of text_of bytes_of
piece_short Nothing = omega arith
piece_short (Node a b c) = omega arith
piece_short (Flow a b c d) = omega arith
piece_short (Bad a b) = omega arith

-- The parts that `split` gives at newlines are the lines.
abbrev parts_of : List ℕ → List (List ℕ)
parts_of text = slice_split (λ c. eqb c 10) text

lines_split : (text : List ℕ) → parts_of text ≡ lines_of text
unfolding lines_of parts onto
lines_split [] = refl
lines_split (c ∷ cs) = go (eqb c 10) (slice_split (λ c. eqb c 10) cs) (parts (is 10) cs) (lines_split cs)
  where
    go : (b : Bool) (xs ys : List (List ℕ)) → xs ≡ ys → cond b ([] ∷ xs) (onto_first c xs) ≡ cond b ([] ∷ ys) (onto c ys)
    go true xs ys e = rw e refl
    go false xs [] e = rw e refl
    go false xs (y ∷ ys) e = rw e refl

-- A line that is at hand is the first of those that are left.
line_left : (text : List ℕ) (n : ℕ) (line : List ℕ) → (n < length (parts_of text)) × (line ≡ get_or (parts_of text) n line)
    → drop n (lines_of text) ≡ line ∷ drop (n + 1) (lines_of text)
line_left text n line h = rw (← lines_split text, add-one n) (drop-cons (parts_of text) n line h.0 ∙ ap (λ (l : List ℕ). l ∷ drop (suc n) (parts_of text)) (sym h.1))

lines_left : (text : List ℕ) (n : ℕ) → n ≡ length (parts_of text) → drop n (lines_of text) ≡ []
lines_left text n l = rw (← lines_split text) (drop_of_length-le (parts_of text) (omega arith))

-- The same of a line with its number, from 0 on.
pub numbered_line : (text : List ℕ) (n i : ℕ) (line : List ℕ)
    → (n < length (enumerate_from 0 (parts_of text))) × (◌≡◌ {A = ℕ × List ℕ} (i, line) (get_or (enumerate_from 0 (parts_of text)) n (i, line)))
    → (i ≡ n) × (n < length (parts_of text)) × (line ≡ get_or (parts_of text) n line)
numbered_line text n i line h =
    let l : n < length (parts_of text) = omega (arith, h.0, length-enumerate_from 0 (parts_of text)) in
    let e : ◌≡◌ {A = ℕ × List ℕ} (i, line) (0 + n, get_or (parts_of text) n line) = h.1 ∙ get_or-enumerate_from 0 (parts_of text) n (i, line) l in
    (ap (λ (x : ℕ × List ℕ). x.0) e ∙ zero-add n, l, ap (λ (x : ℕ × List ℕ). x.1) e)

-- A line that is read is no wrong line, and takes six bytes at most.
pub read_right : (command : Option Command) (k : ℕ) (other : Assembled) → wrong_or (typed (Ok command)) k other ≡ other
unfolding wrong_or
read_right None k other = refl
read_right (Some (node parent capacity gap)) k other = refl
read_right (Some (flow number entry rate deadline)) k other = refl

pub said_long : (command : Command) → 6 ≡ length (text_of (piece_of (command_said command)))
unfolding piece_of text_of bytes_of
said_long (node parent capacity gap) = refl
said_long (flow number entry rate deadline) = refl

-- The space t has the commands of the first n lines: those of the others make it what all make of s.
pub record Putting (text : List ℕ) (s : ℕ × List ℕ) (n : ℕ) (t : ℕ × List ℕ) : Type 0 where
  pub rest : puts t (pieces_of (drop n (lines_of text))) ≡ puts s (pieces_of (lines_of text))

module _ (text : List ℕ) (s : ℕ × List ℕ) where
  module _ (n : ℕ) (t : ℕ × List ℕ) (p : Putting text s n t) where
    pub putting_more : (line : List ℕ) → (n < length (parts_of text)) × (line ≡ get_or (parts_of text) n line) → (u : ℕ × List ℕ)
        → u ≡ puts t (piece_of (typed_line line)) → Putting text s (n + 1) u
    unfolding pieces_of
    putting_more line h u e = record {
      rest = puts_then t u _ (piece_of (typed_line line)) (pieces_of (drop (n + 1) (lines_of text))) e refl
          ∙ sym (ap (λ (ls : List (List ℕ)). puts t (pieces_of ls)) (line_left text n line h)) ∙ p.rest;
    }

    pub putting_end : n ≡ length (parts_of text) → (v : ℕ × List ℕ) (code : ℕ) → v ≡ puts t ((code ∷ []) ∷ []) → code ≡ 255 → v ≡ puts s (pieces_of (lines_of text))
    unfolding pieces_of
    putting_end l v code f q =
        (rw q at f) ∙ sym (ap (λ (ls : List (List ℕ)). puts t (pieces_of ls)) (lines_left text n l)) ∙ p.rest

-- None of the first n lines is wrong, and their commands and END take `size` bytes.
pub record Checking (text : List ℕ) (n size : ℕ) : Type 0 where
  pub small : size ≤ 6 * n + 1
  pub rest : (other : Assembled) → first_wrong (drop n (lines_of text)) (n + 1) other ≡ first_wrong (lines_of text) 1 other
  pub sum : size + length (text_of (pieces_of (drop n (lines_of text)))) ≡ length (plan_typed text) + 1

module _ (text : List ℕ) where
  pub checking_start : Checking text 0 1
  unfolding plan_typed
  checking_start = record { small = omega arith; rest = λ other. refl; sum = omega arith }

  module _ (n size : ℕ) (p : Checking text n size) where
    module _ (line : List ℕ) (h : (n < length (parts_of text)) × (line ≡ get_or (parts_of text) n line)) where
      at_hand : drop n (lines_of text) ≡ line ∷ drop (n + 1) (lines_of text)
      at_hand = line_left text n line h

      -- A wrong line is told.
      pub checking_wrong : (command place : ℕ) → Bad command place ≡ typed_line line → (other : Assembled) → BadLine (n + 1) command place ≡ first_wrong (lines_of text) 1 other
      unfolding first_wrong wrong_or
      checking_wrong command place q other = sym (rw (at_hand, sym q) refl) ∙ p.rest other

      -- Behind any other the check goes on.
      pub checking_more : (t : Typed) → t ≡ typed_line line → ((k : ℕ) (other : Assembled) → wrong_or t k other ≡ other)
          → (m : ℕ) → m ≡ length (text_of (piece_of t)) → Checking text (n + 1) (size + m)
      unfolding first_wrong pieces_of
      checking_more t e right m b =
          let more : length (text_of (piece_of t ++ pieces_of (drop (n + 1) (lines_of text)))) ≡ length (text_of (piece_of t)) + length (text_of (pieces_of (drop (n + 1) (lines_of text)))) =
          text_append (piece_of t) (pieces_of (drop (n + 1) (lines_of text))) in
          let left : pieces_of (drop n (lines_of text)) ≡ piece_of t ++ pieces_of (drop (n + 1) (lines_of text)) = rw (at_hand, sym e) refl in
          record {
            small = omega (arith, p.small, b, piece_short t);
            rest = λ other. sym (rw (at_hand, sym e) (right (n + 1) (first_wrong (drop (n + 1) (lines_of text)) (n + 1 + 1) other))) ∙ p.rest other;
            sum = omega (arith, b, more, rw left at p.sum);
          }

    pub checking_end : n ≡ length (parts_of text) → Length size ≡ first_wrong (lines_of text) 1 (Length (length (plan_typed text)))
    unfolding first_wrong pieces_of text_of
    checking_end l =
        let none : drop n (lines_of text) ≡ [] = lines_left text n l in
        let all : size ≡ length (plan_typed text) = omega (arith, rw none at p.sum) in
        rw all (sym (rw none refl) ∙ p.rest (Length (length (plan_typed text))))

-- What is stored, by what the check of all lines came to.
pub assembled_long : (text out : List ℕ) → 65535 < length text → (Long, out) ≡ assembled_of text out
unfolding assembled_of
assembled_long text out l = rw (lt-ltb _ _ l)

abbrev length_of : Assembled → ℕ → ℕ
length_of (Length n) m = n
length_of (BadLine k command place) m = m
length_of Short m = m
length_of Long m = m

-- A check that found no wrong line tells the number that it was handed.
checked_length : (ls : List (List ℕ)) (k n : ℕ) → length_of (first_wrong ls k (Length n)) n ≡ n
unfolding first_wrong wrong_or
checked_length [] k n = refl
checked_length (l ∷ ls) k n = go (typed_line l) (checked_length ls (k + 1) n)
  where
    go : (t : Typed) → length_of (first_wrong ls (k + 1) (Length n)) n ≡ n → length_of (wrong_or t k (first_wrong ls (k + 1) (Length n))) n ≡ n
    go Nothing e = e
    go (Node a b c) e = e
    go (Flow a b c d) e = e
    go (Bad a b) e = refl

module _ (text out : List ℕ) (few : length text ≤ 65535) where
  module _ (a : Assembled) (e : a ≡ first_wrong (lines_of text) 1 (Length (length (plan_typed text)))) where
    pub judged : assembled_of text out ≡ stored_plan a (plan_typed text) out
    unfolding assembled_of
    judged = rw (le-ltb _ _ few, e)

  module _ (size : ℕ) (e : Length size ≡ first_wrong (lines_of text) 1 (Length (length (plan_typed text)))) where
    sized : size ≡ length (plan_typed text)
    sized = ap (λ (x : Assembled). length_of x (length (plan_typed text))) e ∙ checked_length (lines_of text) 1 (length (plan_typed text))

    pub assembled_short : length out < size → (Short, out) ≡ assembled_of text out
    unfolding stored_plan
    assembled_short l = sym (judged (Length size) e ∙ rw (lt-ltb _ _ l))

    pub assembled_stored : size ≤ length out → (r : ℕ) (new : List ℕ) → (r, new) ≡ puts (0, out) (pieces_of (lines_of text))
        → (Length size, new) ≡ assembled_of text out
    unfolding stored_plan plan_typed
    assembled_stored l r new f =
        let n : size ≡ length (text_of (pieces_of (lines_of text))) = sized in
        let is : new ≡ plan_typed text ++ drop size out =
        ap (λ (s : ℕ × List ℕ). s.1) (f ∙ puts_whole 0 out (pieces_of (lines_of text)) (omega arith)) ∙ rw (zero-add, sym n) in
        sym (judged (Length size) e ∙ rw (le-ltb _ _ l) (ap (λ (o : List ℕ). (Length size, o)) (sym is)))

  -- Every error leaves the slice.
  pub assembled_told : (error : AssembleError) → assembled (Err error) ≡ first_wrong (lines_of text) 1 (Length (length (plan_typed text)))
      → (assembled (Err error), out) ≡ assembled_of text out
  unfolding stored_plan
  assembled_told (WrongLine line mistake) e = sym (judged _ e)
  assembled_told NoRoom e = sym (judged _ e)
  assembled_told TooLong e = sym (judged _ e)

-- A command has at most six bytes, and a text no more lines than bytes and one.
pieces_short : (ls : List (List ℕ)) → length (text_of (pieces_of ls)) ≤ 6 * length ls + 1
unfolding pieces_of text_of
pieces_short [] = omega arith
pieces_short (l ∷ ls) = omega (arith, pieces_short ls, piece_short (typed_line l), text_append (piece_of (typed_line l)) (pieces_of ls))

lines_few : (text : List ℕ) → length (lines_of text) ≤ length text + 1
unfolding lines_of parts onto
lines_few [] = omega arith
lines_few (c ∷ cs) = go (is 10 c) (parts (is 10) cs) (lines_few cs)
  where
    go : (b : Bool) (ps : List (List ℕ)) → length ps ≤ length cs + 1 → length (cond b ([] ∷ ps) (onto c ps)) ≤ length (c ∷ cs) + 1
    go true ps l = omega arith
    go false [] l = omega arith
    go false (p ∷ ps) l = omega arith

-- So a slice of 393,217 bytes has room for the plan of every text that is not too long.
pub plan_short : (text : List ℕ) → length text ≤ 65535 → length (plan_typed text) ≤ 393217
unfolding plan_typed
plan_short text l = omega (arith, pieces_short (lines_of text), lines_few text)
