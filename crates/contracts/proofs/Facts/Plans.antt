-- Facts of plan bytes, their reading and writing, and of check 14 that pages name and that no proof above them needs.
use Prim.Native.Nat.{ℕ, ◌+◌, ◌*◌, ◌≤◌, ◌<◌}
use mathlib.Core.Path.{◌≡◌, sym, ◌∙◌, ap}
use mathlib.Core.Bool.{Bool, true, false, cond, not, ◌&&◌}
use mathlib.Core.List.{List}
use lib.ListN.{length, get_or}
use borrow.Author.Tests.{lt-ltb, eq-eqb, ne_eqb, lt-leb, le-leb, not-true}
use native.Mathlib.Omega.{arith}
use Rattle.std.specs.Prelude.{Ok}
use Rattle.lists.specs.Lists.{joined, sum_to, same}
use Rattle.lists.proofs.Laws.Equal.{same_test}
use Rattle.rulings.specs.Outcome.{Outcome, Ruling, accepted, refused}
use Rattle.site.specs.declared.Site.{Site}
use Rattle.site.specs.Sites.{live, empty_site}
use Rattle.slices.specs.Written.{written, encoded, handed}
use Rattle.format.specs.Commands.{size_of}
use Rattle.format.specs.Reading.{Kind, fault_of}
use Rattle.judgement.specs.Judge.{with_site, judge_of}
use Rattle.site_check.specs.Check.{accepts, stands}
use Rattle.site_check.proofs.Laws.Check.{stands_as}
use Rattle.plan_writer.specs.Write.{flow_if_live, plan_bytes}
use Rattle.plan_writer.proofs.Laws.Write.{flows_below, nodes_size, plan_length}
use Rattle.contracts.proofs.Facts.{else_accepted, else_refused}

-- The bytes of a plan by the bytes of its flows. m stands for the size of a NODE.
pub plan_size : (s : Site) (m : ℕ) → m ≡ size_of 1 → (f : ℕ) → f ≡ length (joined (flow_if_live s) 64 0) → m * s.links + f + 1 ≡ length (plan_bytes s)
plan_size s m is f e = omega (arith, plan_length s, nodes_size s m is, e)

-- The place of a number goes by the links and the live flows below.
pub flows_below_lem : (s : Site) (n : ℕ) → length (joined (flow_if_live s) n 0) ≡ size_of 2 * sum_to (λ m. cond (live s m) 1 0) n
flows_below_lem s n = flows_below s n

-- The answers of a writer where check 14 was asked before.
module _ (links : ℕ) (bytes out : List ℕ) where
  pub encoded_many : 63 < links → (refused 14 0, out) ≡ encoded links bytes out
  unfolding encoded handed
  encoded_many l = rw (lt-leb _ _ l)

  pub encoded_few : links ≤ 63 → (a : Outcome ℕ × List ℕ) → a ≡ written bytes out → a ≡ encoded links bytes out
  unfolding encoded handed
  encoded_few l a q = q ∙ rw (le-leb _ _ l)

-- The answer with it. p is the check, and t what it came to.
pub handed_ill : (p t : Bool) → t ≡ p → (bytes out : List ℕ) → not t ≡ true → (refused 14 0, out) ≡ handed p bytes out
unfolding handed
handed_ill p t is bytes out e = rw (← is, not-true t e)

-- The first two checks of a command. m stands for the size of the command.
module _ {A B : Type 0} (k : Kind A B) (bytes : List ℕ) (at : ℕ) (a : A) (m : ℕ) (is : m ≡ k.size (get_or bytes at 0)) where
  pub fault_unknown : m ≡ 0 → 3 ≡ fault_of k bytes at a
  unfolding fault_of
  fault_unknown e = rw (← is, eq-eqb _ _ e)

  pub fault_cut : (m ≡ 0 → ⊥) → length bytes < at + m → 2 ≡ fault_of k bytes at a
  unfolding fault_of
  fault_cut known l = rw (← is, ne_eqb _ _ known, lt-ltb (length bytes) (at + m) l)

-- The judgement of s, and what it gives: v is the outcome of a verdict.
module _ (s t : Site) (v : Ruling) (j : (v, t) ≡ with_site (judge_of s)) where
  pub stands_refused : (number place : ℕ) → v ≡ refused number place → false ≡ stands s
  unfolding stands accepts with_site
  stands_refused number place e =
      rw (else_refused empty_site (judge_of s) t number place (sym (ap (λ (u : Ruling). (u, t)) e) ∙ j))

  pub stands_lists : v ≡ accepted tt → stands s ≡ same s.offsets t.offsets && same s.periods t.periods
  unfolding with_site
  stands_lists e =
      let own : judge_of s ≡ accepted t = else_accepted empty_site (judge_of s) t (sym (ap (λ (u : Ruling). (u, t)) e) ∙ j) in
      stands_as s t (Ok tt) (sym own) ∙ rw (same_test s.offsets t.offsets, same_test s.periods t.periods)
