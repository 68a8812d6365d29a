-- Facts of texts, their words and lines, that pages name and that no proof above them needs.
use Prim.Native.Nat.{ℕ, ◌+◌, ◌-◌, ◌≤◌, ◌<◌}
use mathlib.Core.Path.{◌≡◌, refl, sym, ◌∙◌, ap}
use mathlib.Core.Bool.{Bool, true, false, cond, not, true≢false}
use mathlib.Core.List.{List, [], ◌∷◌}
use mathlib.Core.Logic.{◌⊎◌, inl, inr}
use lib.ListN.{length, get_or, take, drop, length-take, length-drop}
use lib.Seq.{take_all}
use borrow.Author.Tests.{not-true, not-false}
use native.Mathlib.Omega.{arith}
use Rattle.std.specs.Prelude.{Option, Some, IfSome, Ok, Err}
use Rattle.lists.specs.Lists.{same}
use Rattle.lists.specs.Search.{first}
use Rattle.site.specs.declared.Site.{Site}
use Rattle.site.specs.Sites.{live}
use Rattle.reservations.specs.Reservations.{delay_bound}
use Rattle.slices.specs.Put.{put}
use Rattle.text.specs.Decimal.{value_from, value_of, is_digit, is_number}
use Rattle.text.specs.Letters.{letters}
use Rattle.line_words.specs.declared.Operand.{Operand}
use Rattle.line_words.specs.Parts.{is, Reaches}
use Rattle.line_words.specs.Words.{words_of, said, operand_of, word_at, operand_at, NextWord, operand_told as told}
use Rattle.line_words.proofs.Laws.Parts.{before_reached}
use Rattle.line_words.proofs.Laws.Numbers.{operand_ensured}
use Rattle.arrivals_text.specs.Counts.{flow_part, count_part, arrivals_of}
use Rattle.request_text.specs.declared.Question.TheVariants.{Bound}
use Rattle.request_text.specs.declared.Line.TheVariants.{Asks, Malformed}
use Rattle.request_text.specs.Requests.{numbers, flow_question}
use Rattle.call_text.specs.Lines.{alone, slot_with, slot_line}
use Rattle.typed_line.specs.Lines.{Typed, Nothing, Node, Flow, Bad}
use Rattle.typed_plan.specs.Assemble.{Assembled, Length, BadLine, Short, Long}
use Rattle.site_report.specs.Report.{flow_text, flow_line, flow_line_if}
use Rattle.printing.specs.Printed.{front}
use Rattle.testlib_text.specs.Lines.{scanned, number_from, change_from, change_told}
use Rattle.testlib_text.specs.Printed.{shown, line_shown}

-- The next word of a line, read as a number, is the operand of the definition, with the index behind that word.
module _ (line : List ℕ) (from start end most : ℕ) (w : NextWord line from start end) (g : Bool) (v : ℕ)
    (read : (g ≡ is_number (take (end - start) (drop start line)) most)
    × (v ≡ cond (is_number (take (end - start) (drop start line)) most) (value_of (take (end - start) (drop start line))) 0)) where
  pub operand_some : not g ≡ false → Some (record { value = v; next = end }) ≡ operand_at line from most
  unfolding operand_at word_at
  operand_some n =
      let word_is : take (end - start) (drop start line) ≡ word_at line from = rw (w.begins, w.ends) in
      let number : is_number (take (end - start) (drop start line)) most ≡ true = sym read.0 ∙ not-false g n in
      rw (read.1, number, word_is, w.ends) (sym (rw (ap (λ (word : List ℕ). is_number word most) (sym word_is) ∙ number)))

-- What an operand is in the words of its line: its number is the first of them, and the others stand behind it.
pub operand_told : (line : List ℕ) (from most : ℕ) (r : Option Operand) → r ≡ operand_at line from most
    → (told line r ≡ operand_of (words_of (drop from line)) most)
    × IfSome r (λ o. (o.value ≤ most) × (o.next ≤ length line)) × (r ≡ operand_at line from most)
operand_told line from most r e = operand_ensured line from most r e

-- The parts of a word N=K in which the first `=` stands at index r.
module _ (word : List ℕ) (r : ℕ) (w : Reaches (is 61) word 0 r) where
  pub flow_part_lem : flow_part word ≡ take (r - 0) (drop 0 word)
  unfolding flow_part
  flow_part_lem = before_reached (is 61) word 0 r w (omega arith)

  count_from : count_part word ≡ drop (r + 1) word
  unfolding count_part
  count_from =
      let long : length (take (r - 0) (drop 0 word)) ≡ r = length-take (r - 0) word ∙ omega (arith, w.within) in
      rw (flow_part_lem, long)

  pub count_part_lem : count_part word ≡ take (length word - (r + 1)) (drop (r + 1) word)
  count_part_lem = count_from ∙ sym (take_all (length word - (r + 1)) (drop (r + 1) word) (rw (length-drop (r + 1) word) (omega arith)))

-- The words are numbers within these limits just when b is true, and then they say `values`.
pub record Said (limits : List ℕ) (words : List (List ℕ)) (b : Bool) (values : List ℕ) : Type 0 where
  pub fits : numbers limits words ≡ b
  pub says : b ≡ true → (i : ℕ) → i < length values → said words i ≡ get_or values i 0

-- A line that asks for the bound of a flow.
pub bound_asked : (name : List ℕ) (words : List (List ℕ)) (b : Bool) (number : ℕ) → Said (63 ∷ []) words b (number ∷ []) → not b ≡ false
    → same name (letters "cells") ≡ false → same name (letters "bound") ≡ true → Asks (Bound number) ≡ flow_question name words
unfolding flow_question
bound_asked name words b number s n c d = let t : b ≡ true = not-false b n in rw (s.fits, t, c, d, s.says t 0 (omega arith))

-- A slot whose number is read and whose words do not all give packets, whatever counts are told of them.
abbrev Read : Type 0
Read = Bool × ℕ × List (List ℕ)

module _ (g : Bool) (t : ℕ) (rest : List (List ℕ)) where
  slot_numbered : (words : List (List ℕ)) → (g, t, rest) ≡ operand_of words 4294967295 → not g ≡ false
      → slot_with t (arrivals_of rest) ≡ slot_line words
  unfolding operand_of slot_line
  slot_numbered [] e n = absurd (true≢false (sym (not-false g n) ∙ ap (λ (x : Read). x.0) e))
  slot_numbered (word ∷ words) e n = go (is_number word 4294967295) e
    where
      go : (b : Bool) → ◌≡◌ {A = Read} (g, t, rest) (cond b (true, value_of word, words) (false, 0, []))
          → slot_with t (arrivals_of rest) ≡ cond b (slot_with (value_of word) (arrivals_of words)) (alone Malformed)
      go true e = ap (λ (x : Read). slot_with x.1 (arrivals_of x.2)) e
      go false e = absurd (true≢false (sym (not-false g n) ∙ ap (λ (x : Read). x.0) e))

  pub slot_refused : (words : List (List ℕ)) → (g, t, rest) ≡ operand_of words 4294967295 → not g ≡ false → (all : Bool) (counts : List ℕ)
      → (all, counts) ≡ arrivals_of rest → not all ≡ true → alone Malformed ≡ slot_line words
  unfolding slot_with
  slot_refused words number fits all counts read n =
      ap (λ (b : Bool). slot_with t (b, counts)) (sym (not-true all n)) ∙ ap (λ (x : Bool × List ℕ). slot_with t x) read ∙ slot_numbered words number fits

-- A line of a typed plan that is not wrong is one of the three others, and what is told of a text that is no length one of the three others.
pub not_bad : (t : Typed) → ((command place : ℕ) → t ≡ Bad command place → ⊥)
    → (t ≡ Nothing) ⊎ ((a : ℕ) × (b : ℕ) × (c : ℕ) × (t ≡ Node a b c)) ⊎ ((a : ℕ) × (b : ℕ) × (c : ℕ) × (d : ℕ) × (t ≡ Flow a b c d))
not_bad Nothing never = inl refl
not_bad (Node a b c) never = inr (inl (a, b, c, refl))
not_bad (Flow a b c d) never = inr (inr (a, b, c, d, refl))
not_bad (Bad a b) never = absurd (never a b refl)

pub not_length : (a : Assembled) → ((n : ℕ) → a ≡ Length n → ⊥)
    → ((k : ℕ) × (command : ℕ) × (place : ℕ) × (a ≡ BadLine k command place)) ⊎ (a ≡ Short) ⊎ (a ≡ Long)
not_length (Length n) never = absurd (never n refl)
not_length (BadLine k command place) never = inl (k, command, place, refl)
not_length Short never = inr (inl refl)
not_length Long never = inr (inr refl)

-- The line of a flow that is live.
pub flow_live : (s : Site) (n bound : ℕ) → get_or s.states n 0 ≡ 1 → bound ≡ delay_bound s n
    → flow_text n (get_or s.entries n 0) (get_or s.rates n 0) (get_or s.deadlines n 0) bound ≡ flow_line_if s n
unfolding flow_line_if flow_line live
flow_live s n bound e b = rw (b, e)

-- A line that a test program prints, by what the put and the print answered.
pub line_shown_lem : (s : ℕ × List ℕ) (n r : ℕ) (out : List ℕ) → (n, out) ≡ put s (10 ∷ []) → r ≡ front n (length out) → (r, out) ≡ line_shown s
unfolding line_shown
line_shown_lem s n r out e q = ap (λ (k : ℕ). (k, out)) q ∙ ap (λ (t : ℕ × List ℕ). shown t) e

-- A change that is complete, and one that breaks off behind its index: what was read of it is told.
pub change_complete : change_told (change_from (letters "3 17 300") 0) ≡ Ok (record { field = 3; index = 17; value = 300 })
unfolding first is_digit value_from value_of scanned number_from change_from
change_complete = refl

pub change_cut : change_told (change_from (letters "3 17") 0) ≡ Err (record { field = 3; index = 17; value = 0 })
unfolding first is_digit value_from value_of scanned number_from change_from
change_cut = refl
