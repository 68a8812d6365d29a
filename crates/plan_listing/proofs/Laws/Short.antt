-- A listing has at most 8,192 bytes.
use Prim.Native.Nat.{ℕ, ◌≤◌, ◌<◌}
use mathlib.Core.Path.{◌≡◌, refl}
use mathlib.Core.Bool.{Bool, true, false, cond}
use mathlib.Core.List.{List, []}
use lib.ListN.{length}
use native.Mathlib.Omega.{arith}
use Rattle.rulings.specs.Outcome.{Outcome, accepted, refused}
use Rattle.lists.specs.Lists.{joined}
use Rattle.site.specs.declared.Site.{Site}
use Rattle.site.specs.Sites.{used, live}
use Rattle.format.specs.Words.{Bytes}
use Rattle.site_check.specs.Words.{Sound}
use Rattle.plan_reader.specs.Read.{read_of}
use Rattle.plan.proofs.Laws.Near.{read_near}
use Rattle.text.specs.Letters.{letters}
use Rattle.text.specs.Put.{text_of}
use Rattle.text.proofs.Laws.Put.{text_append}
use Rattle.plan_listing.specs.Listing.{node_text, typed_flow, node_typed, flow_typed, flow_typed_if, site_typed, listing_lines, listing_of}
use Rattle.report_lines.proofs.Laws.Short.{Figure, field, ended, lines_short, told_short}
use Rattle.plan.proofs.Laws.Numbers.{plan_number, read_sound}
use Rattle.report_lines.proofs.Laws.Figures.{parent_figure, capacity_figure, gap_figure, entry_figure, rate_figure, deadline_figure}

node_short : (parent capacity gap : ℕ) → Figure parent → Figure capacity → Figure gap → length (text_of (node_text parent capacity gap)) ≤ 23
node_short parent capacity gap a b c =
    field (letters "node ") parent _ _ (omega arith) a (field (letters " ") capacity _ _ (omega arith) b (field (letters " ") gap _ _ (omega arith) c ended))

typed_short : (number entry rate deadline : ℕ) → Figure number → Figure entry → Figure rate → Figure deadline
    → length (text_of (typed_flow number entry rate deadline)) ≤ 29
typed_short number entry rate deadline a b c d =
    field (letters "flow ") number _ _ (omega arith) a (field (letters " ") entry _ _ (omega arith) b
    (field (letters " ") rate _ _ (omega arith) c (field (letters " ") deadline _ _ (omega arith) d ended)))

-- Its lines as they can be typed.
module _ (s : Site) (w : Sound s) where
  node_line : (i : ℕ) → i < used s.links → length (text_of (node_typed s i)) ≤ 23
  unfolding node_typed
  node_line i l = node_short _ _ _ (parent_figure s w i l) (capacity_figure s w i l) (gap_figure s w i l)

  typed_line_lem : (n : ℕ) → n < 64 → length (text_of (flow_typed_if s n)) ≤ 29
  unfolding flow_typed_if flow_typed text_of
  typed_line_lem n l = go (live s n) refl
    where
      go : (t : Bool) → live s n ≡ t → length (text_of (cond t (flow_typed s n) [])) ≤ 29
      go true e = typed_short _ _ _ _ (record { is = omega arith }) (entry_figure s w n e) (rate_figure s w n e) (deadline_figure s w n e)
      go false e = omega arith

  pub typed_whole : length (text_of (site_typed s)) ≤ 8192
  unfolding site_typed used
  typed_whole =
      let nodes = lines_short (node_typed s) 23 (used s.links) 0 (λ i l. node_line i (omega arith)) in
      let flows = lines_short (flow_typed_if s) 29 64 0 (λ n l. typed_line_lem n (omega arith)) in
      omega (arith, text_append (joined (node_typed s) (used s.links) 0) (joined (flow_typed_if s) 64 0), nodes, flows)

module _ (bytes : List ℕ) (small : Bytes bytes) where
  pub listing_short : length (listing_of bytes) ≤ 8192
  unfolding listing_of listing_lines
  listing_short = go (read_of bytes) refl
    where
      go : (o : Outcome Site) → read_of bytes ≡ o → length (text_of (listing_lines o)) ≤ 8192
      go (accepted s) e = typed_whole s (read_sound bytes small s e)
      go (refused number place) e = told_short (read_of bytes) number place e (read_near bytes small) (omega (arith, plan_number bytes small number place e))
