-- The slots of a site: the children of a parent by rising index, what the slot rule assigns them, and the schedule of all links.
use Prim.Native.Nat.{ℕ, zero, suc, ◌+◌, ◌-◌, ◌≤◌, ◌<◌}
use mathlib.Core.Path.{◌≡◌, refl, sym, ◌∙◌, ap}
use mathlib.Core.Bool.{Bool, true, false, not, cond, ◌&&◌, false≢true}
use mathlib.Core.Logic.{◌⊎◌, inl, inr}
use mathlib.Core.List.{List, [], ◌∷◌, ◌++◌, append-nil}
use lib.Dec.{eqb}
use lib.ListN.{length, get_or, take, drop, set, replicate, length-append, length-set, length-replicate, get_or-replicate}
use lib.Seq.{length-take-le, length_front, take_at, take-suc-set, get_or-append_seam, get_or-set_same, get_or-set_other, get_or-take, ext_get_or}
use borrow.Author.Count.{below_more}
use borrow.Author.Tests.{lt-ltb, le-ltb, le-leb, lt-leb, eq-eqb, ne_eqb, eqb-true}
use native.Mathlib.Decide.{ℕ_discrete}
use native.Mathlib.Nat.{eq-or-lt_of_le, suc-add, zero-add, add-zero}
use native.Mathlib.Numerals.{add-one}
use native.Mathlib.Omega.{arith}
use Rattle.slot_rule.specs.Rule.{base, periods_of, offsets_of}
use Rattle.std.specs.Prelude.{Result, Ok, Err, Option, Some, None, is_some}
use Rattle.std.specs.Result.{result_ok}
use Rattle.rulings.specs.declared.Refusal.{Refusal}
use Rattle.rulings.specs.Outcome.{Outcome, accepted, refused, outcome}
use Rattle.lists.specs.Search.{some_of}
use Rattle.slot_rule.specs.Assign.{assigned}
use Rattle.slot_rule.specs.Words.{InLimits}
use Rattle.slot_rule.proofs.Laws.Checks.{good_assigned}
use Rattle.slot_rule.proofs.Laws.{accepted_when}
use Rattle.lists.proofs.Laws.Search.{some_when, below_when, past_when, lt_or_le, first_is, first_skip, first_end}
use Rattle.site.specs.declared.Site.{Site}
use Rattle.site.specs.Sites.{used}
use Rattle.schedule.specs.Schedule.{kept, gaps_from, gaps_under, rank, assigned_under, base_of, base_under, crowded, first_crowded, entry_assigned, offsets_assigned}
use Rattle.schedule.specs.Schedule.{periods_assigned}
use Rattle.lists.specs.Lists.{listed}
use Rattle.schedule.specs.Words.{Wellgapped}
use Rattle.schedule.specs.Inner.{NextChild, Chained, LeadsOn, Chain, GapsOf, AssignedTo, Spread, SlotsOf}
use Rattle.lists.proofs.Laws.Listed.{get_or_replicated, take_replicate, length_listed, get_or_listed}

kept_append : (t : Bool) (x : ℕ) (xs ys : List ℕ) → kept t x (xs ++ ys) ≡ kept t x xs ++ ys
kept_append true x xs ys = refl
kept_append false x xs ys = refl

kept_length : (t : Bool) (x : ℕ) (xs : List ℕ) (r : ℕ) → length xs ≤ r → length (kept t x xs) ≤ suc r
kept_length true x xs r l = omega arith
kept_length false x xs r l = omega arith

module _ (parents gaps : List ℕ) (p : ℕ) where
  -- The gaps of the a + b links from i on are those of the first a and those of the b after them.
  gaps_append : (a b i : ℕ) → gaps_from parents gaps p (a + b) i ≡ gaps_from parents gaps p a i ++ gaps_from parents gaps p b (i + a)
  unfolding gaps_from
  gaps_append zero b i = rw (zero-add, add-zero)
  gaps_append (suc a) b i =
      let e : i + suc a ≡ i + 1 + a = omega arith in
      rw (suc-add a b, e)
      (ap (kept (eqb (get_or parents i 0) p) (get_or gaps i 0)) (gaps_append a b (i + 1))
      ∙ kept_append (eqb (get_or parents i 0) p) (get_or gaps i 0) (gaps_from parents gaps p a (i + 1)) (gaps_from parents gaps p b (i + 1 + a)))

  gaps_length : (r i : ℕ) → length (gaps_from parents gaps p r i) ≤ r
  unfolding gaps_from
  gaps_length zero i = omega arith
  gaps_length (suc r) i = kept_length (eqb (get_or parents i 0) p) (get_or gaps i 0) (gaps_from parents gaps p r (i + 1)) r (gaps_length r (i + 1))

  -- From the link at index i on: a child's gap goes in front, another link's does not.
  gaps_child : (r i : ℕ) → get_or parents i 0 ≡ p → gaps_from parents gaps p (suc r) i ≡ get_or gaps i 0 ∷ gaps_from parents gaps p r (i + 1)
  unfolding gaps_from
  gaps_child r i e = rw (eq-eqb _ _ e)

  gaps_other : (r i : ℕ) → (get_or parents i 0 ≡ p → ⊥) → gaps_from parents gaps p (suc r) i ≡ gaps_from parents gaps p r (i + 1)
  unfolding gaps_from
  gaps_other r i n = rw (ne_eqb _ _ n)

  -- A child's gap stands behind those of the children before it.
  gaps_split : (n i : ℕ) → i < n → get_or parents i 0 ≡ p
      → gaps_from parents gaps p n 0 ≡ gaps_from parents gaps p i 0 ++ (get_or gaps i 0 ∷ gaps_from parents gaps p (n - (i + 1)) (i + 1))
  gaps_split n i l e =
      let n_is : n ≡ i + suc (n - (i + 1)) = omega arith in
      ap (λ (m : ℕ). gaps_from parents gaps p m 0) n_is ∙ gaps_append i (suc (n - (i + 1))) 0 ∙ rw (zero-add, gaps_child (n - (i + 1)) i e)

  -- One link more.
  gaps_more_child : (i : ℕ) → get_or parents i 0 ≡ p → gaps_from parents gaps p (i + 1) 0 ≡ gaps_from parents gaps p i 0 ++ (get_or gaps i 0 ∷ [])
  unfolding gaps_from
  gaps_more_child i e = gaps_append i 1 0 ∙ rw (zero-add, gaps_child 0 i e)

  gaps_more_other : (i : ℕ) → (get_or parents i 0 ≡ p → ⊥) → gaps_from parents gaps p (i + 1) 0 ≡ gaps_from parents gaps p i 0
  unfolding gaps_from
  gaps_more_other i n = gaps_append i 1 0 ∙ rw (zero-add, gaps_other 0 i n, append-nil)

  -- With a child there is one more of them.
  length_child : (i : ℕ) → get_or parents i 0 ≡ p → length (gaps_from parents gaps p (i + 1) 0) ≡ length (gaps_from parents gaps p i 0) + 1
  length_child i e = rw (gaps_more_child i e, length-append)

  -- Up to the next child no gap is added.
  gaps_skip : (i d : ℕ) → ((j : ℕ) → i ≤ j → j < i + d → get_or parents j 0 ≡ p → ⊥) → gaps_from parents gaps p (i + d) 0 ≡ gaps_from parents gaps p i 0
  gaps_skip i zero none = rw add-zero
  gaps_skip i (suc d) none =
      let e : i + suc d ≡ i + d + 1 = omega arith in
      rw e (gaps_more_other (i + d) (none (i + d) (omega arith) (omega arith)) ∙ gaps_skip i d (λ j a b. none j a (omega arith)))

  gaps_next : (n i x : ℕ) → NextChild parents n p i x → gaps_from parents gaps p x 0 ≡ gaps_from parents gaps p i 0
  gaps_next n i x w =
      let e : x ≡ i + (x - i) = omega (arith, w.behind) in
      ap (λ (m : ℕ). gaps_from parents gaps p m 0) e ∙ gaps_skip i (x - i) (λ j a b. w.none j a (omega arith))

-- chains_of, past the links from index i on.
module _ (parents : List ℕ) (n : ℕ) where
  pub chained_start : (first next : List ℕ) → first ≡ replicate 256 n → length next ≡ 63 → Chained parents n n first next
  chained_start first next e l = record {
    upto = omega arith;
    first_long = rw e (length-replicate 256 n);
    next_long = l;
    heads = λ p m. rw (e, get_or-replicate {A = ℕ} 256 p n 0 m)
        (record { behind = omega arith; within = omega arith; none = λ j a b. absurd (omega arith); child = λ b. absurd (omega arith) });
    leads = λ k a b. absurd (omega arith);
  }

  -- The link before them is the first child of its parent, and leads to the one that was.
  pub chained_more : (i k : ℕ) (first next : List ℕ) → Chained parents n i first next → i ≡ k + 1 → k < 63 → get_or parents k 0 < 256
      → Chained parents n k (set first (get_or parents k 0) k) (set next k (get_or first (get_or parents k 0) 0))
  chained_more i k first next w e few byte =
      record {
        upto = omega (arith, w.upto);
        first_long = simp length-set w.first_long;
        next_long = simp length-set w.next_long;
        heads = heads;
        leads = λ j a l. leads j l (eq-or-lt_of_le a);
      }
    where
      heads : (q : ℕ) → q < 256 → NextChild parents n q k (get_or (set first (get_or parents k 0) k) q 0)
      heads q m = elim (ℕ_discrete q (get_or parents k 0)) [
        | yes z ↦
            rw (z, get_or-set_same first (get_or parents k 0) k 0 (omega (arith, w.first_long)))
            (record { behind = omega arith; within = omega (arith, w.upto); none = λ j a b. absurd (omega arith); child = λ b. refl })
        | no z ↦ rw (get_or-set_other first (get_or parents k 0) q k 0 z) (record {
          behind = omega (arith, (w.heads q m).behind);
          within = (w.heads q m).within;
          none = λ j a b c. elim (eq-or-lt_of_le a) [ inl y ↦ z (sym c ∙ ap (λ (x : ℕ). get_or parents x 0) (sym y)) | inr y ↦ (w.heads q m).none j (omega arith) b c ];
          child = (w.heads q m).child;
        })
      ]

      leads : (j : ℕ) → j < n → (k ≡ j) ⊎ (k < j) → NextChild parents n (get_or parents j 0) (j + 1) (get_or (set next k (get_or first (get_or parents k 0) 0)) j 0)
      leads j l (inl y) = rw (← y, get_or-set_same next k (get_or first (get_or parents k 0) 0) 0 (omega (arith, w.next_long)), ← e) (w.heads (get_or parents k 0) byte)
      leads j l (inr y) = rw (get_or-set_other next k j (get_or first (get_or parents k 0) 0) 0 (λ z. omega arith)) (w.leads j (omega arith) l)

  module _ (first next : List ℕ) (w : Chained parents n 0 first next) where
    pub chained_rising : LeadsOn n next
    chained_rising = record { long = w.next_long; step = λ i l. (omega (arith, (w.leads i (omega arith) l).behind), (w.leads i (omega arith) l).within) }

    pub chained_chain : (p : ℕ) → p < 256 → Chain parents next n p (get_or first p 0)
    chained_chain p m = record { head = w.heads p m; leads = λ i l e. rw e at (w.leads i (omega arith) l) }

pub used_most : (links : ℕ) → used links ≤ 63
unfolding used
used_most links = omega arith

-- gaps_under, at the child at index i: the first `count` entries are the gaps of p's children before it.
pub record Gathering (parents gaps : List ℕ) (n p i count : ℕ) (wanted : List ℕ) : Type 0 where
  pub child : i < n → get_or parents i 0 ≡ p
  pub gathered : GapsOf (gaps_from parents gaps p i 0) count wanted

module _ (parents gaps next : List ℕ) (n p x : ℕ) (chain : Chain parents next n p x) where
  pub gathering_start : (wanted : List ℕ) → length wanted ≡ 63 → Gathering parents gaps n p x 0 wanted
  unfolding gaps_from
  gathering_start wanted l = record {
    child = chain.head.child;
    gathered = rw (gaps_next parents gaps p n 0 x chain.head) (record { long = l; few = omega arith; are = refl });
  }

  pub gathering_more : (i count : ℕ) (wanted : List ℕ) → Gathering parents gaps n p i count wanted → i < n → count < 63
      → Gathering parents gaps n p (get_or next i 0) (count + 1) (set wanted count (get_or gaps i 0))
  gathering_more i count wanted w l m =
      let e = w.child l in
      let g = w.gathered in
      let on = chain.leads i l e in
      record {
        child = on.child;
        gathered = rw (gaps_next parents gaps p n (i + 1) (get_or next i 0) on) (record {
          long = simp length-set g.long;
          few = omega arith;
          are = rw (add-one count, take-suc-set wanted count (get_or gaps i 0) (omega (arith, g.long)), g.are, gaps_more_child parents gaps p i e);
        });
      }

-- Past all links of a site they are those of all p's children.
pub gathered_all : (s : Site) (n p m : ℕ) (gaps : List ℕ) → n ≡ used s.links → GapsOf (gaps_from s.parents s.gaps p n 0) m gaps
    → GapsOf (gaps_under s p) m gaps
unfolding gaps_under
gathered_all s n p m gaps u g = rw (← u) g

module _ (s : Site) (p : ℕ) where
  -- Of two children the earlier one has the smaller rank.
  pub rank_apart : (i k : ℕ) → i < k → get_or s.parents i 0 ≡ p → rank s p i < rank s p k
  unfolding rank
  rank_apart i k l e = rw (gaps_split s.parents s.gaps p k i l e, length-append) (omega arith)

  -- A child's rank is the place of its gap among those of all p's children.
  pub child_gap : (i : ℕ) → i < used s.links → get_or s.parents i 0 ≡ p
      → (rank s p i < length (gaps_under s p)) × (get_or (gaps_under s p) (rank s p i) 0 ≡ get_or s.gaps i 0)
  unfolding rank gaps_under
  child_gap i l e =
      let split = gaps_split s.parents s.gaps p (used s.links) i l e in
      (rw (split, length-append) (omega arith), rw split (get_or-append_seam (gaps_from s.parents s.gaps p i 0) (get_or s.gaps i 0) _ 0))

-- spread, at the child at index i: k of p's children stand before it, and have their entries.
pub record Handing (parents : List ℕ) (n p i k : ℕ) (values list r : List ℕ) : Type 0 where
  pub child : i < n → get_or parents i 0 ≡ p
  pub number : (gaps : List ℕ) → k ≡ length (gaps_from parents gaps p i 0)
  pub handed : Spread parents i p values list r

module _ (parents : List ℕ) (p : ℕ) (values list : List ℕ) where
  -- Up to the next child nobody gets an entry.
  spread_next : (n i x : ℕ) (r : List ℕ) → NextChild parents n p i x → Spread parents i p values list r → Spread parents x p values list r
  spread_next n i x r w h = record {
    long = h.long;
    child = λ gaps j l q. elim (lt_or_le j i) [ inl m ↦ h.child gaps j m q | inr m ↦ absurd (w.none j m l q) ];
    other = λ j m. h.other j (λ l q. m (omega (arith, w.behind)) q);
  }

  module _ (next : List ℕ) (n x : ℕ) (chain : Chain parents next n p x) where
    pub handing_start : length list ≡ 63 → Handing parents n p x 0 values list list
    unfolding gaps_from
    handing_start l = record {
      child = chain.head.child;
      number = λ gaps. rw (gaps_next parents gaps p n 0 x chain.head);
      handed = spread_next n 0 x list chain.head (record { long = l; child = λ gaps j m. absurd (omega arith); other = λ j m. refl });
    }

    pub handing_more : (i k : ℕ) (r : List ℕ) → Handing parents n p i k values list r → i < n → i < 63
        → Handing parents n p (get_or next i 0) (k + 1) values list (set r i (get_or values k 0))
    handing_more i k r w l m =
        let e = w.child l in
        let h = w.handed in
        let on = chain.leads i l e in
        record {
          child = on.child;
          number = λ gaps. rw (gaps_next parents gaps p n (i + 1) (get_or next i 0) on, length_child parents gaps p i e, w.number gaps);
          handed = spread_next n (i + 1) (get_or next i 0) (set r i (get_or values k 0)) on (record {
            long = simp length-set h.long;
            child = λ gaps. below_more _ i (λ j b q. get_or-set_other r i j (get_or values k 0) 0 (λ z. omega arith) ∙ h.child gaps j b q)
                (λ q. get_or-set_same r i (get_or values k 0) 0 (omega (arith, h.long)) ∙ rw (w.number gaps));
            other = λ j b. get_or-set_other r i j (get_or values k 0) 0 (λ z. b (omega arith) (rw z e)) ∙ h.other j (λ a q. b (omega arith) q);
          });
        }

pub zeros_front : (xs : List ℕ) (n : ℕ) → xs ≡ replicate 63 0 → n ≤ 63 → length (take n xs) ≡ n
zeros_front xs n z l = rw z (length-take-le n (replicate 63 0) l)

-- The gaps gathered are as many as the children.
gaps_number : (wanted : List ℕ) (n : ℕ) (gaps : List ℕ) → GapsOf wanted n gaps → n ≡ length wanted
gaps_number wanted n gaps g = sym (length-take-le n gaps (omega (arith, g.few, g.long))) ∙ ap length g.are

-- What is accepted is a base from 1 up.
ok_base : (r : Result ℕ Refusal) (os ps gaps offsets periods : List ℕ) → (outcome r, os, ps) ≡ assigned 2 gaps offsets periods
    → result_ok r ≡ some_of (base_of (outcome r))
unfolding base_of
ok_base (Err r) os ps gaps offsets periods e = refl
ok_base (Ok b) os ps gaps offsets periods e =
    let told : (assigned 2 gaps offsets periods).0 ≡ accepted b = sym (ap (λ (t : Outcome ℕ × List ℕ × List ℕ). t.0) e) in
    some_when b ((accepted_when 2 (omega arith) gaps offsets periods b).0 told).1.0

-- assign_to: the slot rule was lent the gaps and the first n of 63 zeros, twice.
module _ (s : Site) (p n : ℕ) (gaps zs ys : List ℕ) (g : GapsOf (gaps_under s p) n gaps) (z : zs ≡ replicate 63 0) (y : ys ≡ replicate 63 0) where
  same : assigned 2 (take n gaps) (take n zs) (take n ys) ≡ assigned_under s p
  unfolding assigned_under
  same = rw (z, y, take_replicate n 63 0 g.few, g.are, ← gaps_number (gaps_under s p) n gaps g)

  pub assigned_to : (answer : Outcome ℕ) (os ps : List ℕ) → (answer, os, ps) ≡ assigned 2 (take n gaps) (take n zs) (take n ys)
      → (b : ℕ) → b ≡ base_of answer
      → length os ≡ length (take n zs) → length ps ≡ length (take n ys)
      → AssignedTo s p b n (os ++ drop n zs) (ps ++ drop n ys)
  unfolding base_under
  assigned_to answer os ps e b q o k =
      record {
        offsets_long = length_front zs os n o ∙ rw z;
        periods_long = length_front ys ps n k ∙ rw y;
        number = gaps_number (gaps_under s p) n gaps g;
        few = g.few;
        base = q ∙ ap (λ (r : Outcome ℕ × List ℕ × List ℕ). base_of r.0) told;
        offsets = take_at os (drop n zs) n (o ∙ zeros_front zs n z g.few) ∙ ap (λ (r : Outcome ℕ × List ℕ × List ℕ). r.1) told;
        periods = take_at ps (drop n ys) n (k ∙ zeros_front ys n y g.few) ∙ ap (λ (r : Outcome ℕ × List ℕ × List ℕ). r.2) told;
      }
    where
      told : (answer, os, ps) ≡ assigned_under s p
      told = e ∙ same

  -- The base that the rule answers is what it accepts, and never 0.
  pub assigned_by : (r : Result ℕ Refusal) (os ps : List ℕ) → (outcome r, os, ps) ≡ assigned 2 (take n gaps) (take n zs) (take n ys)
      → length os ≡ length (take n zs) → length ps ≡ length (take n ys)
      → (result_ok r ≡ some_of (base_under s p)) × AssignedTo s p (base_under s p) (length (gaps_under s p)) (os ++ drop n zs) (ps ++ drop n ys)
  assigned_by r os ps e o k =
      let a = assigned_to (outcome r) os ps e (base_of (outcome r)) refl o k in (
        ok_base r os ps _ _ _ e ∙ ap some_of a.base,
        record {
          offsets_long = a.offsets_long;
          periods_long = a.periods_long;
          number = refl;
          few = omega (arith, a.number, a.few);
          base = refl;
          offsets = ap (λ (m : ℕ). take m (os ++ drop n zs)) (sym a.number) ∙ a.offsets;
          periods = ap (λ (m : ℕ). take m (ps ++ drop n ys)) (sym a.number) ∙ a.periods;
        },
      )

-- The entry of a link, in a list that is assigned under every parent.
module _ (s : Site) (lists : ℕ → List ℕ) where
  entry_some : (i : ℕ) → i < used s.links → get_or s.parents i 0 ≤ used s.links
      → entry_assigned s lists i ≡ get_or (lists (get_or s.parents i 0)) (rank s (get_or s.parents i 0) i) 0
  unfolding entry_assigned
  entry_some i l m = simp (lt-ltb _ _ l, le-leb _ _ m)

  entry_none : (i : ℕ) → (i < used s.links → get_or s.parents i 0 ≤ used s.links → ⊥) → entry_assigned s lists i ≡ 0
  unfolding entry_assigned
  entry_none i n = go (lt_or_le i (used s.links)) (lt_or_le (used s.links) (get_or s.parents i 0))
    where
      go : (i < used s.links) ⊎ (used s.links ≤ i)
          → (used s.links < get_or s.parents i 0) ⊎ (get_or s.parents i 0 ≤ used s.links)
          → entry_assigned s lists i ≡ 0
      go (inr m) w = simp (le-ltb _ _ m)
      go (inl l) (inl m) = simp (lt-ltb _ _ l, lt-leb _ _ m)
      go (inl l) (inr m) = absurd (n l m)

  entry_listed : (i : ℕ) → i < 63 → get_or (listed (entry_assigned s lists) 63 0) i 0 ≡ entry_assigned s lists i
  entry_listed i l = get_or_listed (entry_assigned s lists) 63 0 i l ∙ rw zero-add

-- assign_all, with the parents below p done: the entries of their children are assigned, and the others are 0.
pub record Entered (s : Site) (lists : ℕ → List ℕ) (p : ℕ) (list : List ℕ) : Type 0 where
  pub long : length list ≡ 63
  pub some : (i : ℕ) → i < used s.links → get_or s.parents i 0 < p
      → get_or list i 0 ≡ get_or (lists (get_or s.parents i 0)) (rank s (get_or s.parents i 0) i) 0
  pub none : (i : ℕ) → (i < used s.links → get_or s.parents i 0 < p → ⊥) → get_or list i 0 ≡ 0

module _ (s : Site) (lists : ℕ → List ℕ) where
  entered_start : Entered s lists 0 (replicate 63 0)
  entered_start = record { long = refl; some = λ i l m. absurd (omega arith); none = λ i n. get_or_replicated 63 i 0 }

  module _ (p : ℕ) (list : List ℕ) (e : Entered s lists p list) where
    entered_skip : length (gaps_under s p) ≡ 0 → Entered s lists (p + 1) list
    entered_skip z =
        record { long = e.long; some = λ i l m. go i l (eq-or-lt_of_le (omega arith)); none = λ i n. e.none i (λ l m. n l (omega arith)) }
      where
        go : (i : ℕ) → i < used s.links → (get_or s.parents i 0 ≡ p) ⊎ (get_or s.parents i 0 < p)
            → get_or list i 0 ≡ get_or (lists (get_or s.parents i 0)) (rank s (get_or s.parents i 0) i) 0
        go i l (inl q) = absurd (omega (arith, (child_gap s p i l q).0))
        go i l (inr b) = e.some i l b

    -- The values, p's list in front, were handed out to p's n children.
    entered_more : (n : ℕ) (values : List ℕ) → n ≡ length (gaps_under s p) → take n values ≡ lists p → (r : List ℕ) → Spread s.parents (used s.links) p values list r
        → Entered s lists (p + 1) r
    unfolding rank
    entered_more n values number are r h =
        record {
          long = h.long;
          some = λ i l m. go i l (eq-or-lt_of_le (omega arith));
          none = λ i m. h.other i (λ l q. m l (omega arith)) ∙ e.none i (λ l b. m l (omega arith));
        }
      where
        go : (i : ℕ) → i < used s.links → (get_or s.parents i 0 ≡ p) ⊎ (get_or s.parents i 0 < p)
            → get_or r i 0 ≡ get_or (lists (get_or s.parents i 0)) (rank s (get_or s.parents i 0) i) 0
        go i l (inl q) =
            h.child s.gaps i l q ∙ sym (get_or-take n values (rank s p i) 0 (omega (arith, (child_gap s p i l q).0))) ∙ rw (are, q)
        go i l (inr b) = h.other i (λ m q. absurd (omega arith)) ∙ e.some i l b

    entered_end : used s.links < p → p ≤ used s.links + 1 → list ≡ listed (entry_assigned s lists) 63 0
    entered_end lo hi =
        ext_get_or 0 list (listed (entry_assigned s lists) 63 0) (e.long ∙ sym (length_listed (entry_assigned s lists) 63 0))
        (λ i l. go i (lt_or_le i (used s.links)) (lt_or_le (used s.links) (get_or s.parents i 0))
        ∙ sym (entry_listed s lists i (omega (arith, e.long))))
      where
        go : (i : ℕ) → (i < used s.links) ⊎ (used s.links ≤ i)
            → (used s.links < get_or s.parents i 0) ⊎ (get_or s.parents i 0 ≤ used s.links)
            → get_or list i 0 ≡ entry_assigned s lists i
        go i (inr m) w = e.none i (λ l b. omega arith) ∙ sym (entry_none s lists i (λ l b. omega arith))
        go i (inl l) (inl m) = e.none i (λ k b. omega arith) ∙ sym (entry_none s lists i (λ k b. omega arith))
        go i (inl l) (inr m) = e.some i l (omega arith) ∙ sym (entry_some s lists i l m)

-- assign_all, with the parents below p done: none of them is crowded, and both lists have what is assigned to their children.
pub record Assigning (s : Site) (n : ℕ) (first next : List ℕ) (p : ℕ) (os ps : List ℕ) : Type 0 where
  pub all : n ≡ used s.links
  pub links : n ≤ 63
  pub chained : Chained s.parents n 0 first next
  pub most : p ≤ n + 1
  pub passed : (q : ℕ) → q < p → crowded s q ≡ false
  pub offsets : Entered s (λ q. (assigned_under s q).1) p os
  pub periods : Entered s (λ q. (assigned_under s q).2) p ps

module _ (s : Site) (n : ℕ) (first next : List ℕ) where
  pub assigning_start : n ≡ used s.links → Chained s.parents n 0 first next → Assigning s n first next 0 (replicate 63 0) (replicate 63 0)
  assigning_start u c = record {
    all = u;
    links = omega (arith, used_most s.links);
    chained = c;
    most = omega arith;
    passed = λ q l. absurd (omega arith);
    offsets = entered_start _ _;
    periods = entered_start _ _;
  }

  module _ (p : ℕ) (os ps : List ℕ) (d : Assigning s n first next p os ps) where
    pub assigning_end : n < p → SlotsOf s None os ps
    unfolding first_crowded offsets_assigned periods_assigned
    assigning_end l = record {
      crowded = past_when _ _ (omega (arith, first_skip _ (used s.links + 1) p (omega arith) d.passed ∙ first_end (crowded s) (used s.links + 1) p (omega arith)));
      offsets = λ m. entered_end _ _ p os d.offsets (omega arith) (omega arith);
      periods = λ m. entered_end _ _ p ps d.periods (omega arith) (omega arith);
    }

    module _ (l : p ≤ n) where
      -- Its first child, if it has one, is one of the links.
      head : NextChild s.parents n p 0 (get_or first p 0)
      head = d.chained.heads p (omega (arith, d.links))

      -- With no children under p.
      pub assigning_none : n ≤ get_or first p 0 → Assigning s n first next (p + 1) os ps
      unfolding crowded gaps_under gaps_from
      assigning_none h =
          let last : get_or first p 0 ≡ n = omega (arith, head.within) in
          let none : length (gaps_under s p) ≡ 0 = ap length (rw (last, d.all) at (gaps_next s.parents s.gaps p n 0 (get_or first p 0) head)) in
          record {
            all = d.all;
            links = d.links;
            chained = d.chained;
            most = omega arith;
            passed = below_more _ p d.passed (simp (eq-eqb _ _ none));
            offsets = entered_skip _ _ p os d.offsets none;
            periods = entered_skip _ _ p ps d.periods none;
          }

      -- With what the slot rule assigns under p.
      module _ (b m : ℕ) (vs ws : List ℕ) (t : AssignedTo s p b m vs ws) where
        pub assigning_crowded : get_or first p 0 < n → b ≡ 0 → SlotsOf s (Some p) os ps
        unfolding first_crowded crowded
        assigning_crowded some z =
            let k : length (gaps_under s p) ≡ 0 → ⊥ = omega (arith, (child_gap s p (get_or first p 0) (rw d.all at some) (head.child some)).0) in
            let here = first_is (crowded s) (used s.links + 1) 0 p (omega arith) (omega arith) (simp (ne_eqb _ _ k, eq-eqb _ _ (sym t.base ∙ z))) d.passed in
            record {
              crowded = rw here (below_when _ _ (omega arith));
              offsets = λ m. absurd (omega (arith, here));
              periods = λ m. absurd (omega (arith, here));
            }

        fit : (b ≡ 0 → ⊥) → crowded s p ≡ false
        unfolding crowded
        fit f = go (not (eqb (length (gaps_under s p)) 0))
          where
            go : (x : Bool) → x && eqb (base_under s p) 0 ≡ false
            go true = ne_eqb _ _ (λ e. f (t.base ∙ e))
            go false = refl

        pub assigning_more : (b ≡ 0 → ⊥) → (os' ps' : List ℕ) → Spread s.parents n p vs os os' → Spread s.parents n p ws ps ps'
            → Assigning s n first next (p + 1) os' ps'
        assigning_more fits os' ps' o q = record {
          all = d.all;
          links = d.links;
          chained = d.chained;
          most = omega arith;
          passed = below_more _ p d.passed (fit fits);
          offsets = entered_more _ _ p os d.offsets m vs t.number t.offsets os' (rw d.all at o);
          periods = entered_more _ _ p ps d.periods m ws t.number t.periods ps' (rw d.all at q);
        }

pub base_missing : (k : ℕ) (r : Option ℕ) → r ≡ some_of k → is_some r ≡ false → k ≡ 0
base_missing zero r e f = refl
base_missing (suc k) r e f = absurd (false≢true (sym f ∙ rw e))

pub base_given : (k : ℕ) (r : Option ℕ) → r ≡ some_of k → is_some r ≡ true → k ≡ 0 → ⊥
base_given zero r e f z = false≢true (sym (rw e) ∙ f)
base_given (suc k) r e f z = absurd (omega arith)

-- What the schedule means. First its lists: as long as those of the site, a link with a parent in the site has the entry of its rank
-- among those assigned under that parent, and entries not in use are 0.
module _ (s : Site) where
  pub offsets_assigned_long : length (offsets_assigned s) ≡ 63
  unfolding offsets_assigned
  offsets_assigned_long = length_listed (entry_assigned s (λ q. (assigned_under s q).1)) 63 0

  pub periods_assigned_long : length (periods_assigned s) ≡ 63
  unfolding periods_assigned
  periods_assigned_long = length_listed (entry_assigned s (λ q. (assigned_under s q).2)) 63 0

  pub entry_at : (p i : ℕ) → i < used s.links → get_or s.parents i 0 ≡ p → p ≤ used s.links
      → (get_or (offsets_assigned s) i 0 ≡ get_or (assigned_under s p).1 (rank s p i) 0) × (get_or (periods_assigned s) i 0 ≡ get_or (assigned_under s p).2 (rank s p i) 0)
  unfolding offsets_assigned periods_assigned
  entry_at p i l e m = (at (λ q. (assigned_under s q).1), at (λ q. (assigned_under s q).2))
    where
      at : (lists : ℕ → List ℕ) → get_or (listed (entry_assigned s lists) 63 0) i 0 ≡ get_or (lists p) (rank s p i) 0
      at lists = entry_listed s lists i (omega (arith, used_most s.links)) ∙ entry_some s lists i l (omega arith) ∙ rw e

  pub entry_unused : (i : ℕ) → used s.links ≤ i → i < 63 → (get_or (offsets_assigned s) i 0 ≡ 0) × (get_or (periods_assigned s) i 0 ≡ 0)
  unfolding offsets_assigned periods_assigned
  entry_unused i m l = (at (λ q. (assigned_under s q).1), at (λ q. (assigned_under s q).2))
    where
      at : (lists : ℕ → List ℕ) → get_or (listed (entry_assigned s lists) 63 0) i 0 ≡ 0
      at lists = entry_listed s lists i l ∙ entry_none s lists i (λ k b. omega arith)

-- With gaps from 1 to 1,024 everywhere, so are those of a parent's children.
kept_limits : (t : Bool) (x : ℕ) (xs : List ℕ) → InLimits x → ((k : ℕ) → k < length xs → InLimits (get_or xs k 0))
    → (k : ℕ) → k < length (kept t x xs) → InLimits (get_or (kept t x xs) k 0)
kept_limits true x xs h each zero l = h
kept_limits true x xs h each (suc k) l = each k (omega arith)
kept_limits false x xs h each k l = each k l

module _ (parents gaps : List ℕ) (p : ℕ) where
  gaps_limits : (r i : ℕ) → ((j : ℕ) → j < i + r → InLimits (get_or gaps j 0))
      → (k : ℕ) → k < length (gaps_from parents gaps p r i) → InLimits (get_or (gaps_from parents gaps p r i) k 0)
  unfolding gaps_from
  gaps_limits zero i h k l = absurd (omega arith)
  gaps_limits (suc r) i h k l =
      kept_limits (eqb (get_or parents i 0) p) (get_or gaps i 0) (gaps_from parents gaps p r (i + 1)) (h i (omega arith))
      (gaps_limits r (i + 1) (λ j m. h j (omega arith))) k l

module _ (s : Site) (p : ℕ) where
  abbrev zeros : List ℕ
  zeros = replicate (length (gaps_under s p)) 0

  -- What the slot rule assigns to the children of p where only the base is left to judge; the test is whether it is 0.
  abbrev ruled : Bool → Outcome ℕ × List ℕ × List ℕ
  ruled t = cond t (refused 11 0, zeros, zeros) (accepted (base 2 (gaps_under s p)), offsets_of 2 (gaps_under s p), periods_of 2 (gaps_under s p))

  -- With such gaps the slot rule refuses no parent that has children, except where no base fits them.
  module _ (w : Wellgapped s) (some : 1 ≤ length (gaps_under s p)) where
    by_base : assigned_under s p ≡ ruled (eqb (base 2 (gaps_under s p)) 0)
    unfolding assigned_under gaps_under
    by_base =
        good_assigned 2 (gaps_under s p) zeros zeros (record {
          offsets_long = length-replicate _ _;
          periods_long = length-replicate _ _;
          some = some;
          few = omega (arith, gaps_length s.parents s.gaps p (used s.links) 0, used_most s.links);
          limits = gaps_limits s.parents s.gaps p (used s.links) 0 (λ j l. w.limits j (omega arith));
        })

    pub base_under_lem : base_under s p ≡ base 2 (gaps_under s p)
    unfolding base_under base_of
    base_under_lem = ap (λ (r : Outcome ℕ × List ℕ × List ℕ). base_of r.0) by_base ∙ go (eqb (base 2 (gaps_under s p)) 0) refl
      where
        go : (t : Bool) → eqb (base 2 (gaps_under s p)) 0 ≡ t → base_of (ruled t).0 ≡ base 2 (gaps_under s p)
        go true e = sym (eqb-true _ _ e)
        go false e = refl

    pub assigned_lists : 1 ≤ base_under s p → ((assigned_under s p).1 ≡ offsets_of 2 (gaps_under s p)) × ((assigned_under s p).2 ≡ periods_of 2 (gaps_under s p))
    assigned_lists h =
        let n : base 2 (gaps_under s p) ≡ 0 → ⊥ = omega (arith, base_under_lem) in
        rw (by_base, ne_eqb _ _ n) (refl, refl)
