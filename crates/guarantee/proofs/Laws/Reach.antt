-- A site with the flows below a number alone: from the nodes up to the whole site, one flow at a time.
use Prim.Native.Nat.{ℕ, zero, suc, ◌+◌, ◌-◌, ◌≤◌, ◌<◌}
use mathlib.Core.Path.{◌≡◌, refl, sym, ◌∙◌, ap}
use mathlib.Core.Bool.{Bool, true, false, cond}
use mathlib.Core.List.{List, ◌∷◌}
use lib.ListN.{length, get_or, set, replicate}
use lib.Seq.{set-set, set-get_or}
use native.Mathlib.Numerals.{add-one}
use native.Mathlib.Omega.{arith}
use Rattle.rulings.specs.Outcome.{accepted}
use Rattle.site.specs.declared.Site.{Site}
use Rattle.site.specs.Sites.{live, with_flows, without_flow}
use Rattle.site_check.specs.Check.{flow_of, passes_of}
use Rattle.site_check.specs.Words.{Shape}
use Rattle.site_check.proofs.Laws.{passes_sound, flow_taken}
use Rattle.site_check.proofs.Laws.Flows.{without_none}
use Rattle.plan.proofs.Laws.Lists.{upto, upto_below, upto_above, upto_zeros, upto_more, upto_full}
use Rattle.counters.specs.Blocks.{with_cells, zeros}
use Rattle.admission.specs.Calls.{admit_of}
use Rattle.admission.proofs.Laws.{releases_when, cells_after_lem, released_again}
use Rattle.moves.specs.Hops.{Service}
use Rattle.guarantee.specs.Runs.{admit, State, Promise, Run, none, then, admissions}
use Rattle.guarantee.specs.Words.{nodes_alone}

-- One entry less of a list that is filled up to k + 1.
upto_less : (xs : List ℕ) (k : ℕ) → k < length xs → set (upto (k + 1) xs) k 0 ≡ upto k xs
upto_less xs k l =
    ap (λ (r : List ℕ). set r k 0) (sym (upto_more xs k l)) ∙ set-set (upto k xs) k (get_or xs k 0) 0
    ∙ ap (λ (v : ℕ). set (upto k xs) k v) (sym (upto_above xs k k (omega arith) (omega arith))) ∙ set-get_or (upto k xs) k 0

-- The site with the flows of numbers below k.
unfoldable pub flows_below : ℕ → Site → Site
flows_below k s = with_flows s (upto k s.states) (upto k s.entries) (upto k s.rates) (upto k s.deadlines)

module _ (s : Site) (long : Shape s) where
  -- What makes the same of every list of 64 entries makes the same of a site's flows.
  flows_same : (f g : List ℕ → List ℕ) → ((xs : List ℕ) → length xs ≡ 64 → f xs ≡ g xs)
      → with_flows s (f s.states) (f s.entries) (f s.rates) (f s.deadlines)
      ≡ with_flows s (g s.states) (g s.entries) (g s.rates) (g s.deadlines)
  flows_same f g e =
      rw (e s.states long.states, e s.entries long.entries, e s.rates long.rates, e s.deadlines long.deadlines)

  below_less : (k : ℕ) → k < 64 → without_flow (flows_below (k + 1) s) k ≡ flows_below k s
  unfolding without_flow flows_below
  below_less k l = flows_same (λ xs. set (upto (k + 1) xs) k 0) (upto k) (λ xs e. upto_less xs k (omega arith))

  pub below_none : flows_below 0 s ≡ nodes_alone s
  unfolding flows_below
  below_none = flows_same (upto 0) (λ xs. replicate 64 0) (λ xs e. upto_zeros xs 64 e)

  pub below_all : flows_below 64 s ≡ s
  unfolding flows_below
  below_all = flows_same (upto 64) (λ xs. xs) (λ xs e. upto_full xs 64 e)

  -- At its own number such a site has the flow that the whole site has.
  below_live : (k : ℕ) → k < 64 → live (flows_below (k + 1) s) k ≡ live s k
  unfolding live flows_below
  below_live k l = rw (upto_below s.states (k + 1) k (omega (arith, long.states)) (omega arith))

  below_flow : (k : ℕ) → k < 64 → flow_of (flows_below (k + 1) s) k ≡ flow_of s k
  unfolding flow_of flows_below
  below_flow k l =
      rw (
        upto_below s.entries (k + 1) k (omega (arith, long.entries)) (omega arith),
        upto_below s.rates (k + 1) k (omega (arith, long.rates)) (omega arith),
        upto_below s.deadlines (k + 1) k (omega (arith, long.deadlines)) (omega arith),
      )

-- Every one of them passes check 14: flow after flow is taken from the whole site.
module _ (s : Site) (e : passes_of s ≡ true) where
  long : Shape s
  long = ((passes_sound s).0 e).formed.shape

  below_down : (r : ℕ) → r ≤ 64 → passes_of (flows_below (64 - r) s) ≡ true
  below_down zero l = rw (below_all s long) e
  below_down (suc r) l =
      let k : 64 - suc r + 1 ≡ 64 - r = omega arith in
      rw (← below_less s long (64 - suc r) (omega arith)) (flow_taken _ (rw k (below_down r (omega arith))) (64 - suc r))

  pub below_passes : (k : ℕ) → k ≤ 64 → passes_of (flows_below k s) ≡ true
  below_passes k l = let w : 64 - (64 - k) ≡ k = omega arith in rw w at (below_down (64 - k) (omega arith))

  -- A live flow is taken in, and the site has one flow more.
  next_live : (k : ℕ) → k < 64 → live s k ≡ true → (ds : List ℕ) → length ds ≡ 576
      → admit_of (flows_below k s) ds (flow_of s k) ≡ (accepted tt, flows_below (k + 1) s, with_cells k (zeros 9) ds)
  next_live k l t ds counted =
      rw (← below_less s long k l, ← below_flow s long k l)
      (released_again (flows_below (k + 1) s) ds k ((releases_when _ ds k).1 (record {
        counted = counted;
        sound = (passes_sound _).0 (below_passes (k + 1) (omega arith));
        few = omega arith;
        living = below_live s long k l ∙ t;
      })) ds counted)

  next_none : (k : ℕ) → k < 64 → live s k ≡ false → flows_below (k + 1) s ≡ flows_below k s
  next_none k l t =
      sym (without_none _ ((passes_sound _).0 (below_passes (k + 1) (omega arith))).formed k (below_live s long k l ∙ t)) ∙ below_less s long k l

  abbrev at : ℕ → List ℕ → State
  at k ds = record { site = flows_below k s; counters = ds }

  abbrev Reached : Service → List ℕ → ℕ → Type 0
  Reached v cs k = (ds : List ℕ) × (length ds ≡ 576) × Run v (at 0 cs) (admissions s k) (at k ds)

  pub reach : (v : Service) (cs : List ℕ) → length cs ≡ 576 → (k : ℕ) → k ≤ 64 → Reached v cs k
  unfolding admissions Promise
  reach v cs counted zero l = (cs, counted, none)
  reach v cs counted (suc k) l = go (live s k) refl (reach v cs counted k (omega arith))
    where
      go : (b : Bool) → live s k ≡ b → Reached v cs k
          → (ds : List ℕ) × (length ds ≡ 576) × Run v (at 0 cs) (cond b ((admit (flow_of s k), accepted tt) ∷ admissions s k) (admissions s k)) (at (suc k) ds)
      go true t (ds, long, run) = (
        with_cells k (zeros 9) ds,
        (cells_after_lem ds k long (omega arith)).0,
        then (admit (flow_of s k)) (accepted tt) (at (suc k) (with_cells k (zeros 9) ds)) run (rw (← add-one k) (sym (next_live k (omega arith) t ds long))),
      )
      go false t (ds, long, run) = (ds, long, rw (← add-one k, next_none k (omega arith) t) run)
