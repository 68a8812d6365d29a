-- The listing of an accepted plan is a typed plan with the same bytes.
use Prim.Native.Nat.{ℕ, zero, suc, ◌+◌, ◌≤◌, ◌<◌}
use mathlib.Core.Path.{◌≡◌, refl, sym, ◌∙◌, ap}
use mathlib.Core.Bool.{Bool, true, false, cond}
use mathlib.Core.List.{List, [], ◌∷◌, ◌++◌, map, append_assoc, append-nil}
use borrow.Author.Tests.{ne_eqb}
use native.Mathlib.Omega.{arith}
use Rattle.rulings.specs.Outcome.{accepted}
use Rattle.lists.specs.Lists.{joined, same}
use Rattle.site.specs.declared.Site.{Site}
use Rattle.site.specs.Sites.{used, live}
use Rattle.site_check.specs.Check.{node_of, flow_of}
use Rattle.site_check.specs.Words.{Sound}
use Rattle.format.specs.Bytes.{bytes_of}
use Rattle.format.specs.Words.{Bytes}
use Rattle.plan_reader.specs.Read.{read_of}
use Rattle.plan_writer.specs.Write.{node_command, node_bytes, flow_command, flow_bytes, flow_if_live, command_bytes, plan_bytes}
use Rattle.plan.proofs.Laws.{read_written}
use Rattle.text.specs.Letters.{letters}
use Rattle.text.specs.Decimal.{decimal, given}
use Rattle.text.specs.Listed.{each, spaced_decimal}
use Rattle.text.specs.Put.{text_of}
use Rattle.text.proofs.Laws.Decimal.{decimal_value, decimal_number}
use Rattle.text.proofs.Laws.Put.{text_joined}
use Rattle.line_words.specs.Parts.{parts, first_part, before, is, lines_of}
use Rattle.line_words.specs.Words.{is_blank, nonempty, words_of, said}
use Rattle.line_words.proofs.Laws.Parts.{unmarked, unmarked_append, unmarked_first, before_unmarked}
use Rattle.line_words.proofs.Laws.Spaced.{unmarked_spaced, words_spaced}
use Rattle.plan_listing.specs.Listing.{node_text, node_typed, typed_flow, flow_typed, flow_typed_if, site_typed, listing_lines, listing_of}
use Rattle.report_lines.proofs.Laws.Figures.{flow_at_lem}
use Rattle.plan.proofs.Laws.Numbers.{read_sound}
use Rattle.typed_line.specs.Lines.{Typed, Node, Flow}
use Rattle.typed_plan.specs.Assemble.{Assembled}
use Rattle.typed_line.specs.Lines.{wrong, command_of, typed_line}
use Rattle.typed_plan.specs.Assemble.{piece_of, pieces_of, plan_typed, wrong_or, first_wrong}
use Rattle.typed_line.proofs.Laws.Operands.{node_right, flow_right}

-- A name and numbers behind it, with a space before each.
abbrev figures : List ℕ → List ℕ → List ℕ
figures name ns = name ++ text_of (each spaced_decimal ns)

figures_unmarked : (byte : ℕ) → byte < 48 → is byte 32 ≡ false → (name ns : List ℕ) → unmarked (is byte) name ≡ true
    → unmarked (is byte) (figures name ns) ≡ true
figures_unmarked byte l space name ns u =
    unmarked_append (is byte) name (text_of (each spaced_decimal ns)) u
    (unmarked_spaced (is byte) (λ c a b. ne_eqb c byte (λ e. absurd (omega arith))) space ns)

-- As a line they have no comment, and are its words.
figures_typed : (name ns : List ℕ) → given name ≡ true → unmarked is_blank name ≡ true → unmarked (is 35) name ≡ true
    → typed_line (figures name ns) ≡ command_of (name ∷ map decimal ns)
unfolding typed_line
figures_typed name ns g blank hash =
    rw (before_unmarked (is 35) (figures name ns) (figures_unmarked 35 (omega arith) refl name ns hash), words_spaced name ns g blank)

-- With operands within their limits such a line is a node's, or a flow's.
node_typed_lem : (parent capacity gap : ℕ) → parent ≤ 255 → capacity ≤ 65535 → gap ≤ 65535
    → typed_line (figures (letters "node") (parent ∷ capacity ∷ gap ∷ [])) ≡ Node parent capacity gap
unfolding command_of same wrong said given unmarked is_blank
node_typed_lem parent capacity gap a b c =
    figures_typed (letters "node") (parent ∷ capacity ∷ gap ∷ []) refl refl refl
    ∙ sym (node_right _ parent capacity gap (rw (decimal_number parent 255 a, decimal_number capacity 65535 b, decimal_number gap 65535 c))
    (sym (decimal_value parent)) (sym (decimal_value capacity)) (sym (decimal_value gap)))

flow_typed_lem : (number entry rate deadline : ℕ) → number ≤ 255 → entry ≤ 255 → rate ≤ 255 → deadline ≤ 65535
    → typed_line (figures (letters "flow") (number ∷ entry ∷ rate ∷ deadline ∷ [])) ≡ Flow number entry rate deadline
unfolding command_of same wrong said given unmarked is_blank
flow_typed_lem number entry rate deadline a b c d =
    figures_typed (letters "flow") (number ∷ entry ∷ rate ∷ deadline ∷ []) refl refl refl
    ∙ sym (flow_right _ number entry rate deadline
    (rw (decimal_number number 255 a, decimal_number entry 255 b, decimal_number rate 255 c, decimal_number deadline 65535 d))
    (sym (decimal_value number)) (sym (decimal_value entry)) (sym (decimal_value rate)) (sym (decimal_value deadline)))

-- No line of a text is wrong.
abbrev Right : List ℕ → Type 0
Right text = (k : ℕ) (other : Assembled) → first_wrong (lines_of text) k other ≡ other

-- The pieces are whole lines, of which none is wrong, and their commands have these bytes.
record Makes (pieces : List (List ℕ)) (bytes : List ℕ) : Type 0 where
  plan : (rest : List ℕ) → plan_typed (text_of pieces ++ rest) ≡ bytes ++ plan_typed rest
  right : (rest : List ℕ) → Right rest → Right (text_of pieces ++ rest)

makes_none : Makes [] []
unfolding text_of
makes_none = record { plan = λ rest. refl; right = λ rest r. r }

makes_both : (ps qs : List (List ℕ)) (bs cs : List ℕ) → Makes ps bs → Makes qs cs → Makes (ps ++ qs) (bs ++ cs)
makes_both ps qs bs cs v w = record {
  plan = λ rest. rw (both rest, append_assoc bs cs (plan_typed rest)) (v.plan (text_of qs ++ rest) ∙ ap (λ (xs : List ℕ). bs ++ xs) (w.plan rest));
  right = λ rest r. rw (both rest) (v.right (text_of qs ++ rest) (w.right rest r));
}
  where
    both : (rest : List ℕ) → text_of (ps ++ qs) ++ rest ≡ text_of ps ++ (text_of qs ++ rest)
    both rest = rw (text_joined ps qs) (append_assoc (text_of ps) (text_of qs) rest)

makes_joined : (item : ℕ → List (List ℕ)) (command : ℕ → List ℕ) (r i : ℕ) → ((k : ℕ) → k < i + r → Makes (item k) (command k))
    → Makes (joined item r i) (joined command r i)
unfolding joined
makes_joined item command zero i w = makes_none
makes_joined item command (suc r) i w =
    makes_both (item i) (joined item r (i + 1)) (command i) (joined command r (i + 1)) (w i (omega arith))
    (makes_joined item command r (i + 1) (λ k l. w k (omega arith)))

-- One line, which a newline ends.
module _ (pieces : List (List ℕ)) (line : List ℕ) (is_line : text_of pieces ≡ line ++ (10 ∷ [])) (whole : unmarked (is 10) line ≡ true) where
  first_line : (rest : List ℕ) → lines_of (text_of pieces ++ rest) ≡ line ∷ lines_of rest
  unfolding lines_of parts
  first_line rest = rw (is_line, append_assoc line (10 ∷ []) rest) (unmarked_first (is 10) line (10 ∷ rest) (lines_of rest) whole refl)

  makes_line : (t : Typed) → typed_line line ≡ t → ((k : ℕ) (other : Assembled) → wrong_or t k other ≡ other) → Makes pieces (text_of (piece_of t))
  unfolding plan_typed pieces_of first_wrong
  makes_line t e right = record {
    plan = λ rest. rw (first_line rest, e) (text_joined (piece_of t) (pieces_of (lines_of rest)));
    right = λ rest r k other. rw (first_line rest, e, r (k + 1) other) (right k other);
  }

makes_node : (parent capacity gap : ℕ) → parent ≤ 255 → capacity ≤ 65535 → gap ≤ 65535 → Makes (node_text parent capacity gap) (node_command parent capacity gap)
unfolding text_of each spaced_decimal unmarked piece_of wrong_or bytes_of
makes_node parent capacity gap a b c =
    let ns : List ℕ = parent ∷ capacity ∷ gap ∷ [] in
    makes_line (node_text parent capacity gap) (figures (letters "node") ns) (text_joined (letters "node" ∷ each spaced_decimal ns) (letters "\n" ∷ []))
    (figures_unmarked 10 (omega arith) refl (letters "node") ns refl) (Node parent capacity gap) (node_typed_lem parent capacity gap a b c) (λ k other. refl)

makes_flow : (number entry rate deadline : ℕ) → number ≤ 255 → entry ≤ 255 → rate ≤ 255 → deadline ≤ 65535
    → Makes (typed_flow number entry rate deadline) (flow_command number entry rate deadline)
unfolding text_of each spaced_decimal unmarked piece_of wrong_or bytes_of
makes_flow number entry rate deadline a b c d =
    let ns : List ℕ = number ∷ entry ∷ rate ∷ deadline ∷ [] in
    makes_line (typed_flow number entry rate deadline) (figures (letters "flow") ns)
    (text_joined (letters "flow" ∷ each spaced_decimal ns) (letters "\n" ∷ [])) (figures_unmarked 10 (omega arith) refl (letters "flow") ns refl)
    (Flow number entry rate deadline) (flow_typed_lem number entry rate deadline a b c d) (λ k other. refl)

-- The lines of a site's nodes and live flows.
module _ (s : Site) (w : Sound s) where
  node_made : (i : ℕ) → i < s.links → Makes (node_typed s i) (node_bytes s i)
  unfolding node_typed node_bytes node_of
  node_made i l =
      let g = w.formed.nodes i l in
      makes_node _ _ _ (omega (arith, g.parent_below, w.formed.few)) g.within.capacity_most (omega (arith, g.within.gap_most))

  flow_made : (n : ℕ) → Makes (flow_typed_if s n) (flow_if_live s n)
  unfolding flow_typed_if flow_typed flow_if_live flow_bytes flow_of
  flow_made n = go (live s n) refl
    where
      go : (b : Bool) → live s n ≡ b → Makes (cond b (flow_typed s n) []) (cond b (flow_bytes s n) [])
      go true e =
          let g = (flow_at_lem s w n e).good in
          makes_flow _ _ _ _ (omega (arith, g.within.number_most)) (omega (arith, g.entry_most, w.formed.few)) g.within.rate_most g.within.deadline_most
      go false e = makes_none

  site_made : Makes (site_typed s) (command_bytes s)
  unfolding site_typed command_bytes used
  site_made =
      let all : used s.links ≡ s.links = omega (arith, w.formed.few) in
      rw all (makes_both _ _ _ _ (makes_joined (node_typed s) (node_bytes s) s.links 0 (λ i l. node_made i (omega arith)))
      (makes_joined (flow_typed_if s) (flow_if_live s) 64 0 (λ n l. flow_made n)))

-- So the listing of an accepted plan makes the bytes of its commands, and END comes behind them; no line is wrong.
module _ (bytes : List ℕ) (small : Bytes bytes) (s : Site) (e : read_of bytes ≡ accepted s) where
  made : Makes (site_typed s) (command_bytes s)
  made = site_made s (read_sound bytes small s e)

  listed : listing_of bytes ≡ text_of (site_typed s) ++ []
  unfolding listing_of listing_lines
  listed = rw (e, append-nil)

  pub listing_plan : plan_typed (listing_of bytes) ≡ bytes
  unfolding plan_bytes plan_typed pieces_of piece_of lines_of typed_line command_of before first_part parts words_of nonempty text_of
  listing_plan = ap plan_typed listed ∙ made.plan [] ∙ read_written bytes s small e

  pub listing_right : Right (listing_of bytes)
  unfolding first_wrong wrong_or lines_of typed_line command_of before first_part parts words_of nonempty
  listing_right = rw listed (made.right [] (λ k other. refl))
