-- What a call leaves of a flow that it does not end: its place in the site, and cells that went through the slot, if the call was an accepted one.
use Prim.Native.Nat.{ℕ, ◌≤◌, ◌<◌}
use mathlib.Core.Path.{◌≡◌, refl, sym, ◌∙◌, ap}
use mathlib.Core.Bool.{true, false≢true}
use mathlib.Core.List.{List, []}
use lib.ListN.{length, get_or, set}
use lib.Seq.{get_or-set_other}
use Rattle.rulings.specs.Outcome.{Ruling, accepted, refused}
use Rattle.site.specs.declared.Site.{Site}
use Rattle.site.specs.declared.Flow.{Flow}
use Rattle.site.specs.Sites.{live, with_fields, with_flow, without_flow}
use Rattle.reservations.specs.Reservations.{route_of}
use Rattle.counters.specs.Blocks.{cells_of, with_cells, zeros}
use Rattle.queues.specs.Cells.{steps}
use Rattle.admission.proofs.Laws.{admit_accepted, admit_refused, release_accepted, release_refused, cells_after_lem}
use Rattle.moves.specs.Hops.{Service, hops_of}
use Rattle.moves.specs.Moves.{cells_after}
use Rattle.simulation.proofs.Laws.{slot_accepted, slot_refused, start_refused}
use Rattle.moves.proofs.Laws.{slot_cells}
use Rattle.guarantee.specs.Runs.{Call, slot, admit, release, start, State, Promise}
use Rattle.guarantee.specs.Demand.{entered, Stays, NoStart, rate_of, deadline_of}

-- A service that goes by the links of a site and not by its flows.
pub record Steady (v : Service) : Type 0 where
  pub same : (s : Site) (n state entry rate deadline : ℕ) → v (with_fields s n state entry rate deadline) ≡ v s

-- Flow f is the same in two sites.
pub record Same (v : Service) (f : ℕ) (s s' : Site) : Type 0 where
  pub living : live s' f ≡ live s f
  pub hops : hops_of v s' f ≡ hops_of v s f
  pub rate : rate_of s' f ≡ rate_of s f
  pub deadline : deadline_of s' f ≡ deadline_of s f

same_site : (v : Service) (f : ℕ) (s s' : Site) → s' ≡ s → Same v f s s'
same_site v f s s' e = rw e (record { living = refl; hops = refl; rate = refl; deadline = refl })

same_fields : (v : Service) → Steady v → (f : ℕ) (s : Site) (n state entry rate deadline : ℕ) → (n ≡ f → ⊥)
    → Same v f s (with_fields s n state entry rate deadline)
unfolding live hops_of route_of
same_fields v w f s n state entry rate deadline d =
    let other : (xs : List ℕ) (x : ℕ) → get_or (set xs n x) f 0 ≡ get_or xs f 0 = λ xs x. get_or-set_other xs n f x 0 (λ q. d (sym q)) in record {
      living = rw (other s.states state);
      hops = rw (other s.rates rate, other s.entries entry, w.same s n state entry rate deadline);
      rate = other s.rates rate;
      deadline = other s.deadlines deadline;
    }

-- What a call leaves of flow f.
pub record Left (v : Service) (f : ℕ) (c : Call) (r : Ruling) (σ σ' : State) : Type 0 where
  pub flow : Same v f σ.site σ'.site
  pub cells : cells_of f σ'.counters ≡ steps (hops_of v σ.site f) (cells_of f σ.counters) (entered f c r [])

module _ (v : Service) (w : Steady v) (f : ℕ) (few : f < 64) (σ σ' : State) (l : live σ.site f ≡ true) where
  -- The site and the counters are as they were.
  left_same : (c : Call) (r : Ruling) → σ'.site ≡ σ.site → σ'.counters ≡ σ.counters → entered f c r [] ≡ [] → Left v f c r σ σ'
  unfolding steps
  left_same c r e k none = record { flow = same_site v f _ _ e; cells = rw (k, none) }

  -- Another flow has other fields, and its cells are 0.
  left_other : (c : Call) (n state entry rate deadline : ℕ) → length σ.counters ≡ 576 → n ≤ 63 → (n ≡ f → ⊥)
      → σ'.site ≡ with_fields σ.site n state entry rate deadline → σ'.counters ≡ with_cells n (zeros 9) σ.counters
      → entered f c (accepted tt) [] ≡ [] → Left v f c (accepted tt) σ σ'
  unfolding steps
  left_other c n state entry rate deadline long most d e k none = record {
    flow = rw e (same_fields v w f σ.site n state entry rate deadline d);
    cells = rw (k, none) ((cells_after_lem σ.counters n long most).2 f (λ q. d (sym q)));
  }

  left_slot : (t : ℕ) (xs : List ℕ) (r : Ruling) → Promise v (slot t xs) σ r σ' → Left v f (slot t xs) r σ σ'
  unfolding Promise entered steps cells_after
  left_slot t xs (accepted tt) p =
      let a = slot_accepted σ.site σ.counters σ'.counters v xs t p.0 in record {
        flow = same_site v f _ _ p.1;
        cells = rw a.1 ((slot_cells v σ.site σ.counters xs t a.0.counted).1 f few ∙ rw l);
      }
  left_slot t xs (refused n q) p =
      left_same (slot t xs) (refused n q) p.1 (slot_refused σ.site σ.counters σ'.counters v xs t n q p.0) refl

  left_admit : (g : Flow) (r : Ruling) → Promise v (admit g) σ r σ' → Left v f (admit g) r σ σ'
  unfolding Promise entered with_flow
  left_admit g (accepted tt) p =
      let a = admit_accepted σ.site σ'.site σ.counters σ'.counters g p in
      left_other (admit g) g.number 1 g.entry g.rate g.deadline a.0.counted a.0.good.within.number_most
      (λ q. false≢true (sym a.0.free ∙ ap (λ (k : ℕ). live σ.site k) q ∙ l)) a.1 a.2 refl
  left_admit g (refused n q) p =
      let a = admit_refused σ.site σ'.site σ.counters σ'.counters g n q p in left_same (admit g) (refused n q) a.0 a.1 refl

  left_release : (m : ℕ) (r : Ruling) → Promise v (release m) σ r σ' → Stays f (release m, r) → Left v f (release m) r σ σ'
  unfolding Promise entered without_flow Stays
  left_release m (accepted tt) p d =
      let a = release_accepted σ.site σ'.site σ.counters σ'.counters m p in
      left_other (release m) m 0 0 0 0 a.0.counted a.0.few d a.1 a.2 refl
  left_release m (refused n q) p d =
      let a = release_refused σ.site σ'.site σ.counters σ'.counters m n q p in left_same (release m) (refused n q) a.0 a.1 refl

  left_start : (r : Ruling) → Promise v start σ r σ' → NoStart (start, r) → Left v f start r σ σ'
  unfolding Promise entered NoStart
  left_start (accepted tt) p d = absurd d
  left_start (refused n q) p d = left_same start (refused n q) p.1 (start_refused σ.site σ.counters σ'.counters n q p.0) refl

  pub left : (c : Call) (r : Ruling) → Promise v c σ r σ' → Stays f (c, r) → NoStart (c, r) → Left v f c r σ σ'
  left (slot t xs) r p d e = left_slot t xs r p
  left (admit g) r p d e = left_admit g r p
  left (release m) r p d e = left_release m r p d
  left start r p d e = left_start r p e
