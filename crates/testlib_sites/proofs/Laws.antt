-- What is proved of sites that lines give and change: one entry of a field, all changes of a line, the plan of a line.
use Prim.Native.Nat.{ℕ, zero, suc, ◌+◌, ◌-◌, ◌≤◌, ◌<◌}
use mathlib.Core.Path.{◌≡◌, refl, sym, ◌∙◌, ap}
use mathlib.Core.Bool.{true, false}
use mathlib.Core.List.{List, []}
use lib.ListN.{length, get_or, set, take}
use lib.Seq.{set_out}
use native.Mathlib.Omega.{arith}
use native.Mathlib.Nat.{mod-eq_of_lt}
use Rattle.site.specs.declared.Site.{Site}
use Rattle.testlib_changes.specs.Changed.{fields_of}
use Rattle.std.specs.Prelude.{Ok, Err}
use borrow.Author.Tests.{lt-ltb, le-ltb}
use mathlib.Core.Logic.{◌⊎◌, inl, inr}
use Rattle.lists.proofs.Laws.Search.{lt_or_le}
use Rattle.testlib_text.specs.declared.Change.{Change}
use Rattle.testlib_text.specs.Lines.{change_from, change_told}
use Rattle.testlib_text.proofs.Laws.Lines.{change_after, change_found, change_lost}
use Rattle.testlib_sites.specs.Altered.{place_of, with_entry, changed, altered_by, altered_from, site_given}
use Rattle.rulings.specs.Outcome.{Ruling}
use Rattle.judgement.specs.Judge.{with_site}
use Rattle.plan_reader.specs.Read.{read_of}
use Rattle.testlib_text.specs.Hex.{hex_bytes, filled}
use Rattle.testlib_text.proofs.Laws.Hex.{filled_front}

pub ruleset past_end = (set_out)

pub field_none : (s : Site) (field index value : ℕ) → 10 ≤ field → s ≡ with_entry s field index value
unfolding with_entry
field_none s field index value l =
    sym (rw (set_out (fields_of s) field (set (get_or (fields_of s) field []) (place_of field index) value) (omega arith)))

pub ruleset entries = (field_none, mod-eq_of_lt)

-- The changes of a line from an index on still make the whole.
pub record Altering (line : List ℕ) (whole : Site) (at : ℕ) (s : Site) : Type 0 where
  pub steps : ℕ
  pub enough : length line ≤ at + steps
  pub rest : altered_by steps line at s ≡ whole

pub altering_start : (line : List ℕ) (start : ℕ) (s : Site) → Altering line (altered_from line start s) start s
unfolding altered_from
altering_start line start s = record { steps = length line; enough = omega arith; rest = refl }

-- Behind the line nothing changes.
altered_past : (line : List ℕ) (steps at : ℕ) (s : Site) → length line ≤ at → altered_by steps line at s ≡ s
unfolding altered_by
altered_past line zero at s l = refl
altered_past line (suc steps) at s l = rw (le-ltb at (length line) l)

module _ (line : List ℕ) (whole : Site) (at : ℕ) (s : Site) (w : Altering line whole at s) where
  -- One change more.
  pub altering_more : (change : Change) (more : Site) → Ok change ≡ change_told (change_from line at)
      → ((next : ℕ) → more ≡ changed s (record { found = true; field = change.field; index = change.index; value = change.value; next = next }))
      → (length line - (change_from line at).next < length line - at) × Altering line whole (change_from line at).next more
  unfolding altered_by
  altering_more change more e f =
      let c = change_found line at change e in (omega (arith, c.0, change_after line at c.0), go w.steps w.enough w.rest c.0 c.1)
    where
      go : (k : ℕ) → length line ≤ at + k → altered_by k line at s ≡ whole → at < length line
          → record { found = true; field = change.field; index = change.index; value = change.value; next = (change_from line at).next } ≡ change_from line at
          → Altering line whole (change_from line at).next more
      go zero enough rest l q = absurd (omega arith)
      go (suc k) enough rest l q = record {
        steps = k;
        enough = omega (arith, change_after line at l);
        rest = rw (f (change_from line at).next, q) (rw (lt-ltb at (length line) l) at rest);
      }

  -- No change more.
  pub altering_end : (lost : Change) → Err lost ≡ change_told (change_from line at) → s ≡ whole
  unfolding altered_by changed
  altering_end lost e = go w.steps w.rest (change_lost line at lost e)
    where
      go : (k : ℕ) → altered_by k line at s ≡ whole → ((change_from line at).found ≡ false) × ((change_from line at).next ≡ length line) → s ≡ whole
      go zero rest q = rest
      go (suc k) rest q = ends (lt_or_le at (length line))
        where
          ends : (at < length line) ⊎ (length line ≤ at) → s ≡ whole
          ends (inl l) = sym (altered_past line k (length line) s (omega arith)) ∙ rw (lt-ltb at (length line) l, q.0, q.1) at rest
          ends (inr l) = rw (le-ltb at (length line) l) at rest

-- The plan of a line, as much of it as was stored.
pub given_site : (line out new : List ℕ) (n : ℕ) (r : Ruling) (s : Site) → (n, new) ≡ filled (hex_bytes line) out → length out ≡ 2048
    → (r, s) ≡ with_site (read_of (take n new)) → s ≡ site_given line
unfolding site_given
given_site line out new n r s e long q =
    let front : take n new ≡ take 2048 (hex_bytes line) =
    ap (λ (w : ℕ × List ℕ). take w.0 w.1) e ∙ filled_front (hex_bytes line) out ∙ ap (λ (k : ℕ). take k (hex_bytes line)) long in
    ap (λ (w : Ruling × Site). w.1) q ∙ rw front
