-- What the moves of one slot mean: hops and widths in words, and the counters that a slot leaves. The modules named here hold the lemmas.
pub mod Answers
pub mod Moves
use Prim.Native.Nat.{ℕ, zero, suc, ◌+◌, ◌*◌, ◌≤◌, ◌<◌}
use mathlib.Core.Path.{◌≡◌, refl, sym, ◌∙◌, ap}
use mathlib.Core.Bool.{true, not}
use mathlib.Core.List.{List, [], ◌∷◌}
use mathlib.Core.Logic.{◌↔◌}
use lib.Dec.{eqb, ltb}
use lib.ListN.{length, get_or}
use borrow.Author.Tests.{eq-eqb, eqb-true, ltb-false, not-false}
use native.Mathlib.Omega.{arith}
use Rattle.rulings.specs.Outcome.{Ruling, accepted, refused}
use Rattle.lists.specs.Lists.{joined}
use Rattle.rulings.proofs.Laws.Outcomes.{past, settled_accepted, settled_refused}
use Rattle.lists.proofs.Laws.Search.{first_none}
use Rattle.site.specs.declared.Site.{Site}
use Rattle.site.specs.Sites.{live}
use Rattle.tree.specs.Tree.{of_link}
use Rattle.reservations.specs.Reservations.{periods_judged, route_of, width_at}
use Rattle.schedule.specs.Words.{SendsAt}
use Rattle.schedule.proofs.Laws.Slots.{sends_in}
use Rattle.counters.specs.Blocks.{cells_of}
use Rattle.counters.proofs.Laws.{length_block, length_joined, block_joined}
use Rattle.queues.specs.Cells.{Hop}
use Rattle.queues.specs.Words.{hop_at}
use Rattle.moves.specs.Hops.{Service, own, hops_along, hops_of}
use Rattle.moves.specs.Moves.{recounted, cells_after}
use Rattle.slot_checks.specs.Checks.{overflows, first_overflow, arrivals_ruling, advance_ruling}
use Rattle.moves.specs.Inner.{AllMovable}
use Rattle.moves.proofs.Laws.Moves.{length_after}
use Rattle.moves.proofs.Laws.Answers.{recount_accepted, recount_refused}

-- A route has a hop for each of its links, in the same order.
pub length_along : (hop : ℕ → Hop) (ms : List ℕ) → length (hops_along hop ms) ≡ length ms
unfolding hops_along
length_along hop [] = refl
length_along hop (m ∷ ms) = ap suc (length_along hop ms)

along_at : (hop : ℕ → Hop) (ms : List ℕ) (k : ℕ) → k < length ms → hop_at (hops_along hop ms) k ≡ hop (get_or ms k 0)
unfolding hops_along
along_at hop [] k l = absurd (omega arith)
along_at hop (m ∷ ms) zero l = refl
along_at hop (m ∷ ms) (suc k) l = along_at hop ms k (omega arith)

-- By the site's own schedule, hop k of flow n is the link of node m, the route's number k: it sends just when m does, its gap is m's period, and its width is the flow's
-- rate for just that gap (02, U2).
pub hop_when : (s : Site) (n k m : ℕ) → k < length (route_of s n) → get_or (route_of s n) k 0 ≡ m
    → ((t : ℕ) → ((hop_at (hops_of own s n) k).sends t ≡ true) ↔ SendsAt s m t)
    × ((hop_at (hops_of own s n) k).gap ≡ of_link s.periods m)
    × ((hop_at (hops_of own s n) k).width ≡ get_or s.rates n 0 * of_link s.periods m)
unfolding hops_of width_at periods_judged
hop_when s n k m l e =
    let at : hop_at (hops_of own s n) k ≡ own s (get_or s.rates n 0) m = along_at _ (route_of s n) k l ∙ ap (own s (get_or s.rates n 0)) e in
    (λ t. rw at (sends_in s m t), rw at, rw at)

-- 02, U2: the width is what the rate brings in the hop's gap, no less and no more.
pub width_exact : (s : Site) (rate node : ℕ) → (own s rate node).width ≡ rate * (own s rate node).gap
unfolding width_at periods_judged
width_exact s rate node = refl

-- What the calls answer and leave: an accepted one new counters, a refused one those that were there.
module _ (r : Ruling) (new cs ds : List ℕ) where
  pub recounted_accepted : (accepted tt, ds) ≡ recounted r new cs → (r ≡ accepted tt) × (ds ≡ new)
  unfolding recounted
  recounted_accepted e =
      let a : accepted tt ≡ r = ap (λ (q : Ruling × List ℕ). q.0) e in
      (sym a, ap (λ (q : Ruling × List ℕ). q.1) e ∙ settled_accepted r new cs a)

  pub recounted_refused : (number place : ℕ) → (refused number place, ds) ≡ recounted r new cs → ds ≡ cs
  unfolding recounted
  recounted_refused number place e =
      let a : refused number place ≡ r = ap (λ (q : Ruling × List ℕ). q.0) e in ap (λ (q : Ruling × List ℕ). q.1) e ∙ settled_refused r new cs a

-- The counters that an accepted slot leaves: there are 576 still, and each number has the cells that the rules give it; an accepted start leaves each nine zeros.
pub slot_cells : (v : Service) (s : Site) (cs xs : List ℕ) (t : ℕ) → length cs ≡ 576
    → (length (joined (cells_after v s cs xs t) 64 0) ≡ 576) × ((n : ℕ) → n < 64 → cells_of n (joined (cells_after v s cs xs t) 64 0) ≡ cells_after v s cs xs t n)
unfolding cells_of
slot_cells v s cs xs t long =
    let nine : (k : ℕ) → 0 ≤ k → k < 0 + 64 → length (cells_after v s cs xs t k) ≡ 9 = λ k lo hi. length_after v s cs xs t k (omega arith) in
    (length_joined 9 _ 64 0 nine, λ n l. let e : 0 + n ≡ n = omega arith in rw e at (block_joined 9 (cells_after v s cs xs t) 64 0 n nine l))

-- Where the other checks pass, packets can be moved, on any site: nothing leaves 32 bits.
pub advance_ready : (s : Site) (cs xs : List ℕ) → advance_ruling s cs xs ≡ accepted tt → AllMovable s.states cs xs
unfolding advance_ruling arrivals_ruling first_overflow overflows live cells_of
advance_ready s cs xs e =
    let a = past (not (eqb (length xs) 64)) 1 0 _ e in
    let b = past (not (eqb (length cs) 576)) 1 0 _ a.1 in
    let c = past (ltb (first_overflow s cs xs) 64) 19 _ _ b.1 in
    let long : length cs ≡ 576 = eqb-true _ _ (not-false _ b.0) in
    record {
      counted = long;
      listed = eqb-true _ _ (not-false _ a.0);
      each = λ n l on. record {
        nine = length_block 9 n cs (omega arith);
        fits = ltb-false _ _ (rw (eq-eqb _ _ on) at ((first_none (overflows s cs xs) 64).0 (ltb-false _ _ c.0) n l));
      };
    }

-- What `advance` is proved by.
pub ruleset advance_rules = (advance_ready, recount_accepted, recount_refused)
