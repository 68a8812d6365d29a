-- What is proved of changes over plan bytes: a change is the operation on the site that the bytes read to, and the bytes that it writes read to the changed
-- site, so that a host that keeps bytes has lost nothing. The module named here holds the lemmas.
pub mod Changes
use Prim.Native.Nat.{ℕ}
use mathlib.Core.Path.{◌≡◌, refl, ap}
use mathlib.Core.List.{List}
use lib.ListN.{take, drop}
use Rattle.rulings.specs.Outcome.{Outcome, Ruling, accepted, refused}
use Rattle.site.specs.declared.Site.{Site}
use Rattle.site.specs.declared.Flow.{Flow}
use Rattle.plan_reader.specs.Read.{read_of}
use Rattle.plan_writer.specs.Write.{plan_bytes}
use Rattle.site_check.specs.Check.{written_if}
use Rattle.plan.proofs.Laws.{plan_made}
use Rattle.admission.specs.Calls.{admit_of, release_of}
use Rattle.host_answers.specs.Calls.{on_site, of_length}
use Rattle.host_answers.proofs.Laws.Calls.{unlike, by_site, of_list}
use Rattle.host_changes.specs.Changes.{stored_with, rewritten, admit_from, release_from}

-- What a change comes to where its bytes were written.
abbrev Changed : List ℕ → (Site → Ruling × Site × List ℕ) → List ℕ → ℕ → List ℕ → List ℕ → Type 0
Changed bytes change out size ds new =
    (s : Site) × (next : Site) × (read_of bytes ≡ accepted s) × (change s ≡ (accepted tt, next, ds))
    × (read_of (take size new) ≡ accepted next) × (drop size new ≡ drop size out)

rewritten_reads : (change : Ruling × Site × List ℕ) (counters out : List ℕ) (size : ℕ) (ds new : List ℕ)
    → rewritten change counters out ≡ (accepted size, ds, new)
    → (next : Site) × (change ≡ (accepted tt, next, ds)) × (read_of (take size new) ≡ accepted next) × (drop size new ≡ drop size out)
unfolding rewritten stored_with
rewritten_reads (accepted a, next, cells) counters out size ds new e = go (written_if next (plan_bytes next) out) refl e
  where
    go : (w : Outcome ℕ × List ℕ) → written_if next (plan_bytes next) out ≡ w → stored_with w cells counters ≡ (accepted size, ds, new)
        → (t : Site) × (◌≡◌ {A = Ruling × Site × List ℕ} (accepted a, next, cells) (accepted tt, t, ds))
        × (read_of (take size new) ≡ accepted t) × (drop size new ≡ drop size out)
    go (accepted n, b) q e =
        let o : ◌≡◌ {A = Outcome ℕ} (accepted n) (accepted size) = ap (λ (r : Outcome ℕ × List ℕ × List ℕ). r.0) e in
        let is : n ≡ size = cc in
        let cs : cells ≡ ds = ap (λ (r : Outcome ℕ × List ℕ × List ℕ). r.1) e in
        let bs : b ≡ new = ap (λ (r : Outcome ℕ × List ℕ × List ℕ). r.2) e in
        let w = plan_made next out new size (rw (is, bs) at q) in
        (next, rw cs, w.0, w.1)
    go (refused number place, b) q e = absurd (unlike (ap (λ (r : Outcome ℕ × List ℕ × List ℕ). r.0) e))
rewritten_reads (refused number place, next, cells) counters out size ds new e =
    absurd (unlike (ap (λ (r : Outcome ℕ × List ℕ × List ℕ). r.0) e))

-- An accepted admission or release was accepted on the site that the old bytes read to, left the counters that it leaves, and wrote bytes that read to the
-- changed site.
changed : (bytes counters out : List ℕ) (change : Site → Ruling × Site × List ℕ) (size : ℕ) (ds new : List ℕ)
    → of_length counters 576 (refused 1 0, counters, out) (on_site bytes (refused 14 0, counters, out) (λ s. rewritten (change s) counters out)) ≡ (accepted size, ds, new)
    → Changed bytes change out size ds new
changed bytes counters out change size ds new e =
    let a = of_list counters 576 _ _ _ (λ q. unlike (ap (λ (r : Outcome ℕ × List ℕ × List ℕ). r.0) q)) e in
    let b = by_site bytes _ _ (λ (s : Site). rewritten (change s) counters out) (λ q. unlike (ap (λ (r : Outcome ℕ × List ℕ × List ℕ). r.0) q)) a.1 in
    let w = rewritten_reads (change b.0) counters out size ds new b.2 in
    (b.0, w.0, b.1, w.1, w.2, w.3)

pub admit_reads : (bytes counters : List ℕ) (f : Flow) (out : List ℕ) (size : ℕ) (ds new : List ℕ)
    → admit_from bytes counters f out ≡ (accepted size, ds, new) → Changed bytes (λ s. admit_of s counters f) out size ds new
unfolding admit_from
admit_reads bytes counters f out size ds new e = changed bytes counters out (λ s. admit_of s counters f) size ds new e

pub release_reads : (bytes counters : List ℕ) (n : ℕ) (out : List ℕ) (size : ℕ) (ds new : List ℕ)
    → release_from bytes counters n out ≡ (accepted size, ds, new) → Changed bytes (λ s. release_of s counters n) out size ds new
unfolding release_from
release_reads bytes counters n out size ds new e = changed bytes counters out (λ s. release_of s counters n) size ds new e
