-- Sites that lines of text give and change.
use Rattle.std.specs.Prelude.{ℕ, zero, suc, cond, List, [], ltb, leb, eqb, length, get_or, take, set}
use Rattle.site.specs.declared.Site.{Site}
use Rattle.judgement.specs.Judge.{with_site}
use Rattle.plan_reader.specs.Read.{read_of}
use Rattle.testlib_text.specs.Lines.{ChangeAt, change_from}
use Rattle.testlib_text.specs.Hex.{hex_bytes}
use Rattle.testlib_changes.specs.Changed.{fields_of}

-- The site with these fields, each at its number.
abbrev pub site_of : List (List ℕ) → Site
site_of fields = record {
  links = get_or (get_or fields 0 []) 0 0;
  parents = get_or fields 1 [];
  capacities = get_or fields 2 [];
  gaps = get_or fields 3 [];
  offsets = get_or fields 4 [];
  periods = get_or fields 5 [];
  states = get_or fields 6 [];
  entries = get_or fields 7 [];
  rates = get_or fields 8 [];
  deadlines = get_or fields 9 [];
}

-- The largest value of a field's entries: links, parents, states, entry nodes and rates have 8 bits.
unfoldable pub largest_of : ℕ → ℕ
largest_of field = cond (ltb field 2) 255 (cond (ltb field 6) 65535 (cond (ltb field 9) 255 65535))

-- Of links there is one number: the index plays no part.
unfoldable pub place_of : ℕ → ℕ → ℕ
place_of field index = cond (eqb field 0) 0 index

-- The site with one entry set; as it is where the field has no such entry, or there is no such field.
unfoldable pub with_entry : Site → ℕ → ℕ → ℕ → Site
with_entry s field index value = site_of (set (fields_of s) field (set (get_or (fields_of s) field []) (place_of field index) value))

-- The same for a change that is complete and whose value is not too large.
unfoldable pub changed : Site → ChangeAt → Site
changed s c = cond c.found (cond (leb c.value (largest_of c.field)) (with_entry s c.field c.index c.value) s) s

-- The changes of a line from an index on, made in turn, where so many steps are enough.
unfoldable pub altered_by : ℕ → List ℕ → ℕ → Site → Site
altered_by zero line at s = s
altered_by (suc steps) line at s =
    cond (ltb at (length line)) (altered_by steps line (change_from line at).next (changed s (change_from line at))) s

-- All of them: each step passes a byte of the line.
unfoldable pub altered_from : List ℕ → ℕ → Site → Site
altered_from line start s = altered_by (length line) line start s

-- The site of the plan that a line gives in hexadecimal, of which 2,048 bytes are read; the empty site of one that is refused.
unfoldable pub site_given : List ℕ → Site
site_given line = (with_site (read_of (take 2048 (hex_bytes line)))).1
