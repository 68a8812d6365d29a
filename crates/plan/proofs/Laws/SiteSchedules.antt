-- The schedule of a site that passes check 14 passes its own.
use Prim.Native.Nat.{ℕ, suc, ◌%◌, ◌<◌, ◌≤◌}
use mathlib.Core.Path.{◌≡◌, ◌∙◌, ap}
use mathlib.Core.Bool.{true}
use mathlib.Core.List.{List}
use mathlib.Core.Logic.{⊎_elim}
use lib.ListN.{length, get_or, get_or-eq_default}
use native.Mathlib.Nat.{mod-lt}
use native.Mathlib.Omega.{arith}
use Rattle.lists.proofs.Laws.Search.{lt_or_le}
use Rattle.site.specs.declared.Site.{Site}
use Rattle.site.specs.Sites.{used, with_schedule}
use Rattle.tree.specs.Tree.{of_link}
use Rattle.schedule.specs.Schedule.{offsets_assigned, periods_assigned, scheduled}
use Rattle.schedule.proofs.Laws.Schedule.{entry_unused}
use Rattle.schedule.proofs.Laws.Slots.{sends_in}
use Rattle.site_check.specs.Check.{node_of, passes_of}
use Rattle.site_check.specs.Words.{Formed}
use Rattle.site_check.proofs.Laws.{link_once, period_within}
use Rattle.site_check.proofs.Laws.Passing.{passes_parts}
use Rattle.schedule_check.specs.Words.{SlotsWithin, NoLink, Listed}
use Rattle.schedule_writer.specs.Write.{schedule_of}

module _ (s : Site) (e : passes_of s ≡ true) where
  formed : Formed s
  formed = ((passes_parts s).0 e).0

  -- The lists are those of the slot rule.
  own : (s.offsets ≡ offsets_assigned s) × (s.periods ≡ periods_assigned s)
  unfolding scheduled with_schedule
  own = let w = ((passes_parts s).0 e).2 in (ap (λ (t : Site). t.offsets) w, ap (λ (t : Site). t.periods) w)

  -- A link sends in some slot, so its offset is a remainder by its period, which is at most the wanted gap.
  slots_of_lem : (i : ℕ) → i < s.links → SlotsWithin (get_or s.offsets i 0) (get_or s.periods i 0)
  unfolding of_link node_of
  slots_of_lem i l =
      let p = period_within s e (suc i) (omega arith) (omega arith) in
      let t = link_once s e (suc i) 0 (omega arith) (omega arith) in
      let sent : t.0 % get_or s.periods i 0 ≡ get_or s.offsets i 0 = ((sends_in s (suc i) t.0).0 t.3).2 in
      record {
        period_some = p.0;
        period_most = omega (arith, p.1, (formed.nodes i l).within.gap_most);
        offset_below = rw (← sent) (mod-lt t.0 (omega (arith, p.0)));
      }

  spare_of : (i : ℕ) → s.links ≤ i → NoLink (get_or s.offsets i 0) (get_or s.periods i 0)
  unfolding used
  spare_of i l = ⊎_elim
      (λ m. let w = entry_unused s i (omega arith) m in record {
        offset_none = ap (λ (xs : List ℕ). get_or xs i 0) own.0 ∙ w.0;
        period_none =
            ap (λ (xs : List ℕ). get_or xs i 0) own.1 ∙ w.1;
      })
      (λ m. record {
        offset_none = beyond s.offsets (omega (arith, formed.shape.offsets));
        period_none =
            beyond s.periods (omega (arith, formed.shape.periods));
      })
      (lt_or_le i 63)
    where
      beyond : (xs : List ℕ) → length xs ≤ i → get_or xs i 0 ≡ 0
      beyond xs m = get_or-eq_default xs 0 {n = i} m

  pub site_listed : Listed (schedule_of s)
  unfolding schedule_of
  site_listed = record {
    offsets_long = formed.shape.offsets;
    periods_long = formed.shape.periods;
    few = formed.few;
    slots = slots_of_lem;
    spare = spare_of;
  }
