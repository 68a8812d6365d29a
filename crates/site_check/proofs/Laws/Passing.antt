-- Check 14 in its three parts: the form of nodes and flows, their judgement, and that the schedule is theirs.
use mathlib.Core.Path.{◌≡◌, refl, sym, ◌∙◌, ap}
use mathlib.Core.Bool.{true, ◌&&◌, and_assoc, false≢true, and-eq-true_iff}
use mathlib.Core.Logic.{◌↔◌}
use Rattle.site.specs.declared.Site.{Site}
use Rattle.rulings.specs.Outcome.{Outcome, accepted, refused}
use Rattle.site.specs.Sites.{with_schedule}
use Rattle.schedule.specs.Schedule.{offsets_assigned, periods_assigned, scheduled}
use Rattle.judgement.specs.Judge.{judge_of}
use Rattle.schedule.proofs.Laws.Schedule.{offsets_assigned_long, periods_assigned_long}
use Rattle.reservations.specs.Words.{Carried, Punctual}
use Rattle.schedule.specs.Words.{Served}
use Rattle.judgement.proofs.Laws.{judge_gives, judge_accepts}
use Rattle.judgement.proofs.Laws.Judge.{scheduled_bare, judge_bare}
use Rattle.site_check.specs.Check.{shaped, node_of, flow_of, formed, accepts, stands, passes_of, written_if}
use Rattle.lists.specs.Lists.{same}
use Rattle.site_check.specs.Words.{Formed}
use Rattle.site_check.proofs.Laws.Forms.{formed_when, formed_gapped}
use Rattle.lists.proofs.Laws.Equal.{same_when}
use Prim.Native.Nat.{ℕ}
use mathlib.Core.List.{List}
use Rattle.site_check.proofs.Laws.Check.{passes_few}
use Rattle.slices.specs.Written.{encoded}
use Rattle.slices.proofs.Laws.Stores.{handed_well}

-- 11, 12 and 13 let nodes and flows in form pass just when they are as the words say.
pub judged_when : (s : Site) → Formed s → (judge_of s ≡ accepted (scheduled s)) ↔ (Served s × Carried (scheduled s) × Punctual (scheduled s))
judged_when s g = judge_accepts s g.few (formed_gapped s g)

-- The judgement accepts nothing but the site with its own schedule.
accepts_when : (s : Site) → (accepts (judge_of s) ≡ true) ↔ (judge_of s ≡ accepted (scheduled s))
unfolding accepts
accepts_when s = (go (judge_of s) refl, λ e. rw e)
  where
    go : (r : Outcome Site) → judge_of s ≡ r → accepts r ≡ true → judge_of s ≡ accepted (scheduled s)
    go (accepted t) d q = d ∙ ap accepted (judge_gives s t d)
    go (refused number place) d q = absurd (false≢true q)

-- A site has its own schedule just when both lists are those assigned.
own_when : (s : Site) → (same s.offsets (offsets_assigned s) && same s.periods (periods_assigned s) ≡ true) ↔ (s ≡ scheduled s)
unfolding scheduled with_schedule
own_when s = (
  λ e. let w = (and-eq-true_iff _ _).0 e in rw (← (same_when _ _).0 w.0, ← (same_when _ _).0 w.1),
  λ e. rw (
    (same_when s.offsets (offsets_assigned s)).1 (ap (λ (t : Site). t.offsets) e),
    (same_when s.periods (periods_assigned s)).1 (ap (λ (t : Site). t.periods) e),
  ),
)

-- Check 14 in three parts.
pub passes_parts : (s : Site) → (passes_of s ≡ true) ↔ (Formed s × (judge_of s ≡ accepted (scheduled s)) × (s ≡ scheduled s))
unfolding passes_of stands
passes_parts s = (
  λ e. let w = (and-eq-true_iff (shaped s && formed s) _).0 (and_assoc (shaped s) (formed s) _ ∙ e) in let v = (and-eq-true_iff _ _).0 w.1 in
      ((formed_when s).0 w.0, (accepts_when s).0 v.0, (own_when s).0 v.1),
  λ w. sym (and_assoc (shaped s) (formed s) _) ∙ rw ((formed_when s).1 w.0, (accepts_when s).1 w.1, (own_when s).1 w.2),
)

-- Nothing in the form of nodes and flows looks at the schedule but the lengths of its lists.
formed_scheduled : (s : Site) → Formed s → Formed (scheduled s)
unfolding scheduled with_schedule node_of flow_of
formed_scheduled s g = record {
  shape = record {
    parents = g.shape.parents;
    capacities = g.shape.capacities;
    gaps = g.shape.gaps;
    offsets = offsets_assigned_long s;
    periods = periods_assigned_long s;
    states = g.shape.states;
    entries = g.shape.entries;
    rates = g.shape.rates;
    deadlines = g.shape.deadlines;
  };
  few = g.few;
  nodes = g.nodes;
  spare = g.spare;
  flows = g.flows;
}

-- What the judgement accepts passes check 14.
pub judged_passes : (s : Site) → Formed s → judge_of s ≡ accepted (scheduled s) → passes_of (scheduled s) ≡ true
unfolding scheduled with_schedule
judged_passes s g e = (passes_parts (scheduled s)).1 (formed_scheduled s g, bare ∙ e ∙ ap accepted (sym again), sym again)
  where
    bare : judge_of (scheduled s) ≡ judge_of s
    bare = judge_bare s (offsets_assigned s) (periods_assigned s)

    again : scheduled (scheduled s) ≡ scheduled s
    again = scheduled_bare s (offsets_assigned s) (periods_assigned s)

-- A site that passes check 14 is written alike with the check and without it.
pub plain_writing : (s : Site) (bytes out : List ℕ) → passes_of s ≡ true → encoded s.links bytes out ≡ written_if s bytes out
plain_writing s bytes out e = handed_well (passes_of s) true (sym e) bytes out s.links (passes_few s) refl _ refl
