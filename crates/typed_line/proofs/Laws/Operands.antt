-- What a line says by its operands, and by its first word.
use Prim.Native.Nat.{ℕ, ◌+◌, ◌-◌, ◌<◌}
use mathlib.Core.Path.{◌≡◌, refl, sym, ◌∙◌}
use mathlib.Core.Bool.{Bool, true, false, cond}
use mathlib.Core.List.{List, [], ◌∷◌}
use lib.ListN.{length, take, drop}
use borrow.Author.Tests.{eq-eqb, ne_eqb}
use native.Mathlib.Omega.{arith}
use Rattle.std.specs.Prelude.{Option, Some, None, Result, Ok, Err, MatchResult}
use Rattle.std.specs.Result.{IsOkAnd}
use Rattle.text.specs.Letters.{letters}
use Rattle.text.specs.Decimal.{is_number}
use Rattle.line_words.specs.Words.{words_of, said, misfit, NextWord}
use Rattle.lists.specs.Lists.{same}
use Rattle.typed_line.specs.declared.Command.{Command}
use Rattle.typed_line.specs.declared.Mistake.{Mistake}
use Rattle.typed_line.specs.Lines.{Nothing, Node, Flow, Bad, wrong, node_widths, flow_widths, node_said, flow_said, command_of, typed, typed_command}

-- A line whose operands are all right says the command.
module _ (words : List (List ℕ)) where
  pub node_right : (a b c : ℕ) → wrong node_widths words 2 ≡ 0 → a ≡ said words 0 → b ≡ said words 1 → c ≡ said words 2 → Node a b c ≡ node_said words
  unfolding node_said
  node_right a b c e p q r = rw (e, p, q, r)

  pub flow_right : (a b c d : ℕ) → wrong flow_widths words 2 ≡ 0 → a ≡ said words 0 → b ≡ said words 1 → c ≡ said words 2 → d ≡ said words 3
      → Flow a b c d ≡ flow_said words
  unfolding flow_said
  flow_right a b c d e p q r t = rw (e, p, q, r, t)

-- The place of a word by its index among the operands, behind the name; 0 where none is wrong.
place_of : Option ℕ → ℕ
place_of None = 0
place_of (Some index) = index + 2

wrong_at : (limits : List ℕ) (words : List (List ℕ)) (k : ℕ) → wrong limits words (k + 2) ≡ place_of (misfit limits words k)
unfolding wrong misfit place_of
wrong_at [] [] k = refl
wrong_at [] (w ∷ ws) k = refl
wrong_at (m ∷ ms) [] k = refl
wrong_at (m ∷ ms) (w ∷ ws) k = go (is_number w m) (wrong_at ms ws (k + 1))
  where
    go : (b : Bool) → wrong ms ws (k + 1 + 2) ≡ place_of (misfit ms ws (k + 1)) → cond b (wrong ms ws (k + 2 + 1)) (k + 2) ≡ place_of (cond b (misfit ms ws (k + 1)) (Some k))
    go true e = let same : k + 2 + 1 ≡ k + 1 + 2 = omega arith in rw same e
    go false e = refl

-- What the line says then.
module _ (limits : List ℕ) (words : List (List ℕ)) where
  pub fits : misfit limits words 0 ≡ None → wrong limits words 2 ≡ 0
  unfolding place_of
  fits e = wrong_at limits words 0 ∙ rw e

  pub fails : (index : ℕ) → misfit limits words 0 ≡ Some index → wrong limits words 2 ≡ index + 2
  unfolding place_of
  fails index e = wrong_at limits words 0 ∙ rw e

-- A command that is read is one that the line says.
pub typed_mapped : (r : Result Command Mistake) (q : Result (Option Command) Mistake) → MatchResult r (λ x. IsOkAnd q (λ y. y ≡ Some x)) (λ e. q ≡ Err e)
    → typed q ≡ typed_command r
typed_mapped (Ok x) (Ok y) m = rw m refl
typed_mapped (Ok x) (Err d) m = elim m [ ]
typed_mapped (Err e) q m = rw m refl

-- The command that the first word names.
module _ (line : List ℕ) where
  pub unnamed : NextWord line 0 (length line) (length line) → Nothing ≡ command_of (words_of line)
  unfolding command_of
  unnamed w = sym (rw (w.words, eq-eqb (length line) (length line) refl))

  module _ (start end : ℕ) (w : (start < end) × NextWord line 0 start end) where
    named : words_of line ≡ take (end - start) (drop start line) ∷ words_of (drop end line)
    named = w.1.words ∙ rw (ne_eqb start end (λ q. absurd (omega (arith, w.0))))

    pub named_node : true ≡ same (take (end - start) (drop start line)) (letters "node") → node_said (words_of (drop end line)) ≡ command_of (words_of line)
    unfolding command_of
    named_node t = sym (rw (named, sym t))

    module _ (f : false ≡ same (take (end - start) (drop start line)) (letters "node")) where
      pub named_flow : true ≡ same (take (end - start) (drop start line)) (letters "flow") → flow_said (words_of (drop end line)) ≡ command_of (words_of line)
      unfolding command_of
      named_flow t = sym (rw (named, sym f, sym t))

      pub named_other : false ≡ same (take (end - start) (drop start line)) (letters "flow") → Bad 0 1 ≡ command_of (words_of line)
      unfolding command_of
      named_other t = sym (rw (named, sym f, sym t))
