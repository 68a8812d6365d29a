-- Counters of 32 bits: no call leaves a greater one.
use Prim.Native.Nat.{ℕ, ◌+◌, ◌*◌, ◌/◌, ◌%◌, ◌≤◌, ◌<◌}
use mathlib.Core.Path.{◌≡◌, refl, ◌∙◌, ap}
use mathlib.Core.Bool.{Bool, true, false, cond}
use mathlib.Core.List.{List, []}
use mathlib.Core.Logic.{◌⊎◌, inl, inr}
use lib.ListN.{length, get_or, drop, get_or-eq_default}
use lib.Seq.{get_or-take, get_or-drop}
use native.Mathlib.Decide.{ℕ_discrete}
use native.Mathlib.Omega.{arith}
use Rattle.rulings.specs.Outcome.{Ruling, accepted, refused}
use Rattle.lists.specs.Lists.{total, joined}
use Rattle.lists.proofs.Laws.Search.{lt_or_le}
use Rattle.site.specs.Sites.{live}
use Rattle.site_check.proofs.Laws.{passes_sound}
use Rattle.counters.specs.Blocks.{block, cells_of, with_cells, zeros}
use Rattle.counters.proofs.Laws.{length_block, length_zeros}
use Rattle.queues.specs.Cells.{arrived, step}
use Rattle.queues.proofs.Laws.Cells.{length_arrived, total_arrived, total_passed, total_zeros, get_or_total}
use Rattle.admission.proofs.Laws.{admit_accepted, admit_refused, release_accepted, release_refused, cells_after_lem}
use Rattle.moves.specs.Hops.{own, hops_of}
use Rattle.moves.specs.Moves.{cells_after}
use Rattle.moves.proofs.Laws.{slot_cells}
use Rattle.simulation.specs.Words.{Playable}
use Rattle.simulation.proofs.Laws.{slot_accepted, slot_refused, start_accepted, start_refused, start_cells}
use Rattle.guarantee.specs.Runs.{Call, slot, admit, release, start, State, Promise}
use Rattle.guarantee.specs.Words.{Small}
use Rattle.guarantee.proofs.Laws.Demand.{own_short}

-- A flow's cells are counters.
cell_at : (cs : List ℕ) (n k : ℕ) → k < 9 → get_or (cells_of n cs) k 0 ≡ get_or cs (9 * n + k) 0
unfolding cells_of block
cell_at cs n k l = get_or-take 9 (drop (9 * n) cs) k 0 l ∙ get_or-drop (9 * n) cs k 0

-- So counters are small where each number's nine cells have a small sum, or are those of small counters.
cells_small : (cs ds : List ℕ) → ((i : ℕ) → get_or cs i 0 ≤ 4294967295) → length ds ≡ 576
    → ((n : ℕ) → n < 64 → (total (cells_of n ds) ≤ 4294967295) ⊎ (cells_of n ds ≡ cells_of n cs)) → (i : ℕ) → get_or ds i 0 ≤ 4294967295
cells_small cs ds small long w i = elim (lt_or_le i 576) [
  | inl l ↦ cell (w (i / 9) (omega arith))
  | inr l ↦ omega (arith, get_or-eq_default ds 0 {n = i} (omega arith))
]
  where
    at : 9 * (i / 9) + i % 9 ≡ i
    at = omega arith

    cell : (total (cells_of (i / 9) ds) ≤ 4294967295) ⊎ (cells_of (i / 9) ds ≡ cells_of (i / 9) cs) → get_or ds i 0 ≤ 4294967295
    cell (inl m) = omega (arith, m, rw at at (cell_at ds (i / 9) (i % 9) (omega arith)), get_or_total (cells_of (i / 9) ds) (i % 9))
    cell (inr e) = omega (
      arith,
      small i,
      rw at at (cell_at ds (i / 9) (i % 9) (omega arith)),
      rw at at (cell_at cs (i / 9) (i % 9) (omega arith)),
      ap (λ (xs : List ℕ). get_or xs (i % 9) 0) e,
    )

-- An accepted slot: 19 judges a live flow's nine cells with its arrival, which are then the sum of its cells.
slot_small : (σ : State) (xs : List ℕ) (t : ℕ) → Playable σ.site σ.counters xs → (n : ℕ) → n < 64
    → (total (cells_after own σ.site σ.counters xs t n) ≤ 4294967295) ⊎ (cells_after own σ.site σ.counters xs t n ≡ cells_of n σ.counters)
unfolding cells_after cells_of step
slot_small σ xs t w n l = go (live σ.site n) refl
  where
    cells : List ℕ
    cells = block 9 n σ.counters

    nine : length cells ≡ 9
    nine = length_block 9 n σ.counters (omega (arith, w.counted))

    go : (b : Bool) → live σ.site n ≡ b
        → (total (cond b (step (hops_of own σ.site n) t (get_or xs n 0) cells) cells) ≤ 4294967295)
        ⊎ (cond b (step (hops_of own σ.site n) t (get_or xs n 0) cells) cells ≡ cells)
    go true on = inl (omega (
      arith,
      w.fits n l on,
      total_passed (hops_of own σ.site n) t 0 (arrived (get_or xs n 0) cells)
          (omega (arith, own_short σ.site ((passes_sound σ.site).1 w.sound) n on, length_arrived (get_or xs n 0) cells, nine)),
      total_arrived (get_or xs n 0) cells (omega (arith, nine)),
    ))
    go false off = inr refl

-- The nine cells of one number set to 0, and all others as they were.
cleared_small : (cs : List ℕ) (n : ℕ) → length cs ≡ 576 → n ≤ 63 → (k : ℕ) → k < 64
    → (total (cells_of k (with_cells n (zeros 9) cs)) ≤ 4294967295) ⊎ (cells_of k (with_cells n (zeros 9) cs) ≡ cells_of k cs)
cleared_small cs n long few k l = elim (ℕ_discrete k n) [
  | yes e ↦ inl (rw (e, (cells_after_lem cs n long few).1, total_zeros 9) (omega arith))
  | no d ↦ inr ((cells_after_lem cs n long few).2 k d)
]

pub zeros_small : (i : ℕ) → get_or (zeros 576) i 0 ≤ 4294967295
zeros_small = cells_small [] (zeros 576) (λ i. omega arith) (length_zeros 576) (λ n l. inl (rw (start_cells n l, total_zeros 9) (omega arith)))

-- One call, accepted or refused, leaves counters of 32 bits where there were such.
pub call_small : (σ σ' : State) (c : Call) (a : Ruling) → Promise own c σ a σ' → Small σ → Small σ'
unfolding Promise
call_small σ σ' (slot t xs) (accepted tt) p small =
    let w = slot_accepted σ.site σ.counters σ'.counters own xs t p.0 in
    let cells = slot_cells own σ.site σ.counters xs t w.0.counted in
    rw w.1 (cells_small σ.counters (joined (cells_after own σ.site σ.counters xs t) 64 0) small cells.0
    (λ n l. rw (cells.1 n l) (slot_small σ xs t w.0 n l)))
call_small σ σ' (slot t xs) (refused number place) p small =
    rw (slot_refused σ.site σ.counters σ'.counters own xs t number place p.0) small
call_small σ σ' (admit f) (accepted tt) p small =
    let w = admit_accepted σ.site σ'.site σ.counters σ'.counters f p in
    let few = w.0.good.within.number_most in
    rw w.2 (cells_small σ.counters _ small (cells_after_lem σ.counters f.number w.0.counted few).0
    (cleared_small σ.counters f.number w.0.counted few))
call_small σ σ' (admit f) (refused number place) p small =
    rw (admit_refused σ.site σ'.site σ.counters σ'.counters f number place p).1 small
call_small σ σ' (release n) (accepted tt) p small =
    let w = release_accepted σ.site σ'.site σ.counters σ'.counters n p in
    rw w.2 (cells_small σ.counters _ small (cells_after_lem σ.counters n w.0.counted w.0.few).0 (cleared_small σ.counters n w.0.counted w.0.few))
call_small σ σ' (release n) (refused number place) p small =
    rw (release_refused σ.site σ'.site σ.counters σ'.counters n number place p).1 small
call_small σ σ' start (accepted tt) p small =
    rw (start_accepted σ.site σ.counters σ'.counters p.0).2 zeros_small
call_small σ σ' start (refused number place) p small =
    rw (start_refused σ.site σ.counters σ'.counters number place p.0) small
