-- Facts of lower crates that pages name and that no proof above them needs. The modules named here hold those of texts and those of plan bytes.
pub mod Texts
pub mod Plans
use Prim.Native.Nat.{ℕ, zero, suc, ◌/◌, ◌≤◌}
use mathlib.Core.Path.{◌≡◌, refl, sym, ap}
use lib.ListN.{length}
use native.Mathlib.Omega.{arith}
use Rattle.lists.specs.Lists.{joined}
use Rattle.rulings.specs.Outcome.{Outcome, Ruling, accepted, refused, or_else}
use Rattle.rulings.proofs.Laws.Outcomes.{refused_not}
use Rattle.site.specs.declared.Site.{Site}
use Rattle.site.specs.Sites.{flow_count}
use Rattle.site.proofs.Laws.Flows.{flows_few as live_few}
use Rattle.format.specs.Bytes.{bytes_of}
use Rattle.format.specs.Commands.{size_of}
use Rattle.plan_writer.specs.Write.{flow_if_live}
use Rattle.plan_writer.proofs.Laws.Write.{flows_below}

-- What a ruling and the value beside it come from.
pub else_accepted : {A : Type 0} (other : A) (o : Outcome A) (a : A) → (accepted tt, a) ≡ or_else other o → o ≡ accepted a
unfolding or_else
else_accepted {A = A} other (accepted b) a e = ap accepted (ap (λ (r : Ruling × A). r.1) (sym e))
else_accepted {A = A} other (refused number place) a e = absurd (refused_not _ refl (ap (λ (r : Ruling × A). r.0) (sym e)))

pub else_refused : {A : Type 0} (other : A) (o : Outcome A) (a : A) (number place : ℕ) → (refused number place, a) ≡ or_else other o → o ≡ refused number place
unfolding or_else
else_refused {A = A} other (accepted b) a number place e = absurd (refused_not _ refl (ap (λ (r : Ruling × A). r.0) e))
else_refused {A = A} other (refused m q) a number place e =
    let f : ◌≡◌ {A = Ruling} (refused number place) (refused m q) = ap (λ (r : Ruling × A). r.0) e in
    let n : m ≡ number = cc in let p : q ≡ place = cc in rw (n, p)

-- A number as w bytes has w of them.
pub bytes_long : (w v : ℕ) → length (bytes_of w v) ≡ w
unfolding bytes_of
bytes_long zero v = refl
bytes_long (suc w) v = ap suc (bytes_long w (v / 256))

-- The FLOWs of a plan take 384 bytes at most.
pub flows_few : (s : Site) → length (joined (flow_if_live s) 64 0) ≤ 384
unfolding size_of flow_count
flows_few s = omega (arith, flows_below s 64, live_few s)
