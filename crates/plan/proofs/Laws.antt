-- What is proved of plans: when bytes are accepted and what refuses them, that bytes and sites turn into each other without change, and that check 14
-- is exact; then the same of schedules. The modules named here hold the lemmas.
pub mod Lists
pub mod Small
pub mod Drafts
pub mod FromBytes
pub mod FromSites
pub mod Faults
pub mod Files
pub mod Refusals
pub mod Acceptance
pub mod Schedules
pub mod SiteSchedules
pub mod Near
pub mod Former
pub mod Numbers
use Prim.Native.Nat.{ℕ, suc, ◌+◌, ◌<◌, ◌≤◌}
use mathlib.Core.Path.{◌≡◌, refl, sym, ◌∙◌, ap}
use mathlib.Core.Bool.{Bool, true, false, false≢true}
use mathlib.Core.List.{List, [], ◌∷◌, ◌++◌}
use mathlib.Core.Logic.{⊎_elim, ◌↔◌}
use lib.ListN.{length, take, drop}
use lib.Seq.{length-take-le}
use borrow.Author.Tests.{le-ltb}
use native.Mathlib.Omega.{arith}
use Rattle.rulings.specs.Outcome.{Outcome, accepted, refused, or_else}
use Rattle.lists.specs.Lists.{joined}
use Rattle.lists.proofs.Laws.Items.{joined_zero, joined_none}
use Rattle.site.specs.declared.Site.{Site}
use Rattle.site.specs.Sites.{empty_site, live}
use Rattle.schedule.specs.Schedule.{scheduled}
use Rattle.judgement.specs.Judge.{with_site, judge_of}
use Rattle.reservations.specs.Words.{Carried, FullAt, Punctual, LateAt}
use Rattle.schedule.specs.Words.{Wellgapped, Served, CrowdedAt}
use Rattle.judgement.proofs.Laws.{judge_crowds, judge_fills, judge_delays}
use Rattle.site_check.specs.Check.{passes_of, written_if}
use Rattle.site_check.proofs.Laws.Forms.{formed_gapped, linkless_idle}
use Rattle.site_check.proofs.Laws.Passing.{judged_when, passes_parts, judged_passes}
use Rattle.site_check.proofs.Laws.Empty.{empty_passes, linkless_empty}
use Rattle.format.specs.Commands.{size_of}
use Rattle.format.specs.Words.{Bytes}
use Rattle.format.proofs.Laws.Reading.{read_on, read_end, ended_more}
use Rattle.plan_commands.specs.Commands.{plans, blank, decode}
use Rattle.plan_reader.specs.Read.{judge_form, read_of}
use Rattle.schedule_check.specs.declared.Schedule.{Schedule}
use Rattle.schedule_check.specs.Schedules.{without_links}
use Rattle.schedule_reader.specs.Read.{schedules, schedule_read}
use Rattle.schedule_check.specs.Check.{schedule_passes}
use Rattle.schedule_check.proofs.Laws.{passes_listed}
use Rattle.plan_writer.specs.Write.{node_bytes, flow_if_live, command_bytes, plan_bytes}
use Rattle.schedule_writer.specs.Write.{link_bytes, schedule_of, schedule_bytes, schedule_written}
use Rattle.slices.specs.Written.{written, handed}
use Rattle.slices.proofs.Laws.{written_accepted, written_refused}
use Rattle.plan_writer.proofs.Laws.Write.{plan_most, idle_bytes}
use Rattle.plan.specs.Words.{InForm, Begun, FormFails, no_end, command, more}
use Rattle.plan.specs.ScheduleWords.{ScheduleInForm, ScheduleBegun, ScheduleFails}
use Rattle.plan.specs.Former.{former_form, former_read, FormerlyCarried, FormerlyPunctual}
use Rattle.plan.proofs.Laws.Small.{plan_small, schedule_small}
use Rattle.plan.proofs.Laws.Acceptance.{read_form, read_plan_lem, plan_scheduled, read_judged, read_refused}
use Rattle.plan.proofs.Laws.Refusals.{decode_fails, decode_form}
use Rattle.plan.proofs.Laws.Faults.{first_numbers}
use Rattle.plan.proofs.Laws.Schedules.{without_listed, listed_without, check_numbers, schedule_why, schedule_form, schedule_read_lem}
use Rattle.plan.proofs.Laws.SiteSchedules.{site_listed}
use Rattle.plan.proofs.Laws.Former.{former_judged, still_carried, still_punctual, former_plan, former_form_lem, judged_alike}

-- 01's demand 2. Bytes are read to a site just when they are in form and limits, under every parent with children some base fits, on every link
-- the widths sum to at most the capacity, and for every flow G is at most the deadline; the site is then these nodes
-- and flows with their schedule.
pub accepted_when : (bytes : List ℕ) → Bytes bytes → (t : Site)
    → (read_of bytes ≡ accepted t) ↔ ((s : Site) × InForm bytes s × Served s × Carried (scheduled s) × Punctual (scheduled s) × (t ≡ scheduled s))
accepted_when bytes small t = (
  λ e. let w = read_form bytes small t e in let j = (judged_when w.0 w.1.formed).0 w.2 in (w.0, w.1, j.0, j.1, j.2, w.3),
  λ w. rw (w.1.are, w.5) (read_plan_lem w.0 w.1.formed ∙ (judged_when w.0 w.1.formed).1 (w.2, w.3, w.4)),
)

-- Refused with 2 to 10: all commands before the place passed their checks, and of the checks of the command there, or of the end, this is the first
-- in 01's order that fails.
pub refused_form : (bytes : List ℕ) → Bytes bytes → (number place : ℕ)
    → ((read_of bytes ≡ refused number place) × (number ≤ 10)) ↔ FormFails bytes number place
refused_form bytes small number place = (
  λ w. (decode_fails bytes number place small).0 ((read_refused bytes small number place).0 w),
  λ w. (read_refused bytes small number place).1 ((decode_fails bytes number place small).1 w),
)

-- A refusal after END, by what the judgement means of nodes and flows in form.
refused_judged : (bytes : List ℕ) → Bytes bytes → (number place : ℕ) → 11 ≤ number → (P : Site → Type 0)
    → ((s : Site) → s.links ≤ 63 → Wellgapped s → (judge_of s ≡ refused number place) ↔ P s)
    → (read_of bytes ≡ refused number place) ↔ ((s : Site) × InForm bytes s × P s)
refused_judged bytes small number place l P means = (
  λ e. let w = (read_judged bytes small number place l).0 e in (w.0, w.1, (of w.0 w.1).0 w.2),
  λ w. (read_judged bytes small number place l).1 (w.0, w.1, (of w.0 w.1).1 w.2),
)
  where
    of : (s : Site) → InForm bytes s → (judge_of s ≡ refused number place) ↔ P s
    of s w = means s w.formed.few (formed_gapped s w.formed)

-- Refused with 11 at p: the bytes are in form, p is a parent whose children no base fits, and under every lower parent some base fits.
pub refused_crowded : (bytes : List ℕ) → Bytes bytes → (p : ℕ) → (read_of bytes ≡ refused 11 p) ↔ ((s : Site) × InForm bytes s × CrowdedAt s p)
refused_crowded bytes small p = refused_judged bytes small 11 p (omega arith) _ (λ s few g. judge_crowds s few g p)

-- Refused with 12 at m: no parent is crowded, and link m is the lowest whose widths sum to more than its capacity.
pub refused_full : (bytes : List ℕ) → Bytes bytes → (m : ℕ)
    → (read_of bytes ≡ refused 12 m) ↔ ((s : Site) × InForm bytes s × (Served s × FullAt (scheduled s) m))
refused_full bytes small m = refused_judged bytes small 12 m (omega arith) _ (λ s few g. judge_fills s few g m)

-- Refused with 13 at n: no parent is crowded, no link is over, and flow n is the lowest whose G is above its deadline.
pub refused_late : (bytes : List ℕ) → Bytes bytes → (n : ℕ)
    → (read_of bytes ≡ refused 13 n) ↔ ((s : Site) × InForm bytes s × (Served s × Carried (scheduled s) × LateAt (scheduled s) n))
refused_late bytes small n = refused_judged bytes small 13 n (omega arith) _ (λ s few g. judge_delays s few g n)

-- A reading judges only nodes whose gaps are within their limits. So its 11 never tells of such a gap, for which `judge` by itself answers 11 too.
pub judged_gapped : (bytes : List ℕ) → Bytes bytes → (s : Site) → decode bytes ≡ accepted s → Wellgapped s
judged_gapped bytes small s e = formed_gapped s (decode_form bytes small s e).formed

-- 01: a refused reading gives the empty site.
pub refused_empty : (bytes : List ℕ) (number place : ℕ) → read_of bytes ≡ refused number place
    → with_site (read_of bytes) ≡ (refused number place, empty_site)
unfolding with_site or_else
refused_empty bytes number place e = rw e

-- Bytes to site to bytes.
pub read_written : (bytes : List ℕ) (s : Site) → Bytes bytes → read_of bytes ≡ accepted s → plan_bytes s ≡ bytes
read_written bytes s small e =
    let w = read_form bytes small s e in ap (λ (t : Site). plan_bytes t) w.3 ∙ plan_scheduled w.0 ∙ sym w.1.are

-- Site to bytes to site, for every site that check 14 lets pass.
pub written_read : (s : Site) → passes_of s ≡ true → Bytes (plan_bytes s) × (read_of (plan_bytes s) ≡ accepted s)
written_read s e = let w = (passes_parts s).0 e in (plan_small s w.0, read_plan_lem s w.0 ∙ rw (← w.2) at w.1)

-- The operation writes these bytes, at most 763, and leaves the rest of the slice.
pub plan_written : (s : Site) (out : List ℕ) → passes_of s ≡ true → length (plan_bytes s) ≤ length out
    → written_if s (plan_bytes s) out ≡ (accepted (length (plan_bytes s)), plan_bytes s ++ drop (length (plan_bytes s)) out)
unfolding handed written
plan_written s out e room = simp (e, le-ltb _ _ room)

-- What an accepted writing left at the front of the slice reads as the bytes of what was handed in do, and the rest of the slice stands as it stood.
made : (p : Bool) (bytes out new : List ℕ) (size : ℕ) (Reads : List ℕ → Type 0) → (p ≡ true → Reads bytes) → handed p bytes out ≡ (accepted size, new)
    → Reads (take size new) × (drop size new ≡ drop size out)
made p bytes out new size Reads reads e = let w = written_accepted p bytes out new size e in (rw w.2 (reads w.0), w.3)

-- So a plan that the operation wrote reads back to the site.
pub plan_made : (s : Site) (out new : List ℕ) (size : ℕ) → written_if s (plan_bytes s) out ≡ (accepted size, new)
    → (read_of (take size new) ≡ accepted s) × (drop size new ≡ drop size out)
plan_made s out new size e = made (passes_of s) (plan_bytes s) out new size (λ plan. read_of plan ≡ accepted s) (λ t. (written_read s t).1) e

pub plan_short : (s : Site) → passes_of s ≡ true → length (plan_bytes s) ≤ 763
plan_short s e = plan_most s ((passes_parts s).0 e).0.few

-- No two byte strings read to one site.
pub read_once : (bytes others : List ℕ) (s : Site) → Bytes bytes → Bytes others → read_of bytes ≡ accepted s → read_of others ≡ accepted s → bytes ≡ others
read_once bytes others s small small' e f = sym (read_written bytes s small e) ∙ read_written others s small' f

-- Check 14 lets a site pass just when some plan bytes read to it.
pub passes_when : (s : Site) → (passes_of s ≡ true) ↔ ((bytes : List ℕ) × Bytes bytes × (read_of bytes ≡ accepted s))
passes_when s = (
  λ e. let w = written_read s e in (plan_bytes s, w.0, w.1),
  λ v. let w = read_form v.0 v.1 s v.2 in ap (λ (t : Site). passes_of t) w.3 ∙ judged_passes w.0 w.1.formed w.2,
)

-- A writer gives 14 just where the check does not let pass what is handed in.
foreign : (p : Bool) (bytes out : List ℕ) (P : Type 0) → ((p ≡ true) ↔ P) → (handed p bytes out ≡ (refused 14 0, out)) ↔ (P → ⊥)
unfolding handed
foreign p bytes out P when = (
  λ e x. ⊎_elim (λ w. false≢true (sym w.0 ∙ when.1 x)) (λ w. absurd (omega (arith, w.2))) ((written_refused p bytes out out 14 0).0 e).2,
  λ n. go p refl n,
)
  where
    go : (a : Bool) → p ≡ a → (P → ⊥) → handed a bytes out ≡ (refused 14 0, out)
    go true e n = absurd (n (when.0 e))
    go false e n = refl

-- So the writers of a site give it just to a site that no plan bytes read to.
pub site_foreign : (s : Site) (bytes out : List ℕ)
    → (written_if s bytes out ≡ (refused 14 0, out)) ↔ ((plan : List ℕ) → Bytes plan → read_of plan ≡ accepted s → ⊥)
site_foreign s bytes out =
    let w = foreign (passes_of s) bytes out _ (passes_when s) in
    (λ e plan small r. w.0 e (plan, small, r), λ n. w.1 (λ v. n v.0 v.1 v.2))

-- 02, U2. A reading as it was before, by the wanted gaps, in the words of `accepted_when`.
pub formerly_accepted_when : (bytes : List ℕ) → Bytes bytes → (t : Site)
    → (former_read bytes ≡ accepted t) ↔ ((s : Site) × InForm bytes s × Served s × FormerlyCarried s × FormerlyPunctual s × (t ≡ scheduled s))
formerly_accepted_when bytes small t = (
  λ e. let w = former_form_lem bytes small t e in let j = (former_judged w.0 w.1.formed t).0 w.2 in (w.0, w.1, j.0, j.1, j.2, j.3),
  λ w. rw w.1.are (former_plan w.0 w.1.formed ∙ (former_judged w.0 w.1.formed t).1 (w.2, w.3, w.4, w.5)),
)

-- All plans accepted before remain so, and read to the same site.
pub accepted_still : (bytes : List ℕ) → Bytes bytes → (t : Site) → former_read bytes ≡ accepted t → read_of bytes ≡ accepted t
accepted_still bytes small t e =
    let w = (formerly_accepted_when bytes small t).0 e in
    let g = w.1.formed in
    (accepted_when bytes small t).1 (w.0, w.1, w.2, still_carried w.0 g w.2 w.3, still_punctual w.0 g w.2 w.4, w.5)

-- Up to 11 U2 changed nothing: a plan is refused with such a number just when it would be by wanted gaps, at the same place.
pub refused_alike : (bytes : List ℕ) (number place : ℕ) → number ≤ 11 → (read_of bytes ≡ refused number place) ↔ (former_read bytes ≡ refused number place)
unfolding read_of judge_form former_read former_form
refused_alike bytes number place l = go (decode bytes)
  where
    go : (r : Outcome Site) → (judge_form r ≡ refused number place) ↔ (former_form r ≡ refused number place)
    go (accepted s) = judged_alike s number place l
    go (refused m p) = (λ e. e, λ e. e)

-- 02, U1. Schedule bytes are read to a schedule just when they are the LINKs of its links, all within their limits, and END.
pub schedule_accepted_when : (bytes : List ℕ) → Bytes bytes → (s : Schedule) → (schedule_read bytes ≡ accepted s) ↔ ScheduleInForm bytes s
schedule_accepted_when bytes small s = (schedule_form bytes small s, λ w. rw w.are (schedule_read_lem s w.listed))

-- Refused: all commands before the place passed their checks, and of the checks of the command there, or of the end, this is the first in 02's order that fails.
pub schedule_refused : (bytes : List ℕ) → Bytes bytes → (number place : ℕ) → (schedule_read bytes ≡ refused number place) ↔ ScheduleFails bytes number place
schedule_refused bytes small number place = schedule_why bytes small number place

-- Bytes to schedule to bytes, and back: of a schedule that passes its check, and of a site's.
pub schedule_read_written : (bytes : List ℕ) (s : Schedule) → Bytes bytes → schedule_read bytes ≡ accepted s → schedule_bytes s ≡ bytes
schedule_read_written bytes s small e = sym (schedule_form bytes small s e).are

pub schedule_written_read : (s : Schedule) → schedule_passes s ≡ true → Bytes (schedule_bytes s) × (schedule_read (schedule_bytes s) ≡ accepted s)
schedule_written_read s e = let g = (passes_listed s).0 e in (schedule_small s g.few, schedule_read_lem s g)

pub site_schedule_read : (s : Site) → passes_of s ≡ true
    → (schedule_passes (schedule_of s) ≡ true) × (schedule_read (schedule_bytes (schedule_of s)) ≡ accepted (schedule_of s))
unfolding schedule_of
site_schedule_read s e = let g = site_listed s e in ((passes_listed (schedule_of s)).1 g, schedule_read_lem (schedule_of s) g)

-- No two byte strings read to one schedule.
pub schedule_read_once : (bytes others : List ℕ) (s : Schedule) → Bytes bytes → Bytes others → schedule_read bytes ≡ accepted s → schedule_read others ≡ accepted s
    → bytes ≡ others
schedule_read_once bytes others s small small' e f = sym (schedule_read_written bytes s small e) ∙ schedule_read_written others s small' f

-- 14 lets a schedule pass just when some file reads to it, and its writer gives 14 just to one that no file reads to.
pub schedule_passes_when : (s : Schedule) → (schedule_passes s ≡ true) ↔ ((bytes : List ℕ) × Bytes bytes × (schedule_read bytes ≡ accepted s))
schedule_passes_when s = (
  λ e. let w = schedule_written_read s e in (schedule_bytes s, w.0, w.1),
  λ v. (passes_listed s).1 (schedule_form v.0 v.1 s v.2).listed,
)

pub schedule_foreign : (s : Schedule) (out : List ℕ)
    → (schedule_written s out ≡ (refused 14 0, out)) ↔ ((bytes : List ℕ) → Bytes bytes → schedule_read bytes ≡ accepted s → ⊥)
schedule_foreign s out =
    let w = foreign (schedule_passes s) (schedule_bytes s) out _ (schedule_passes_when s) in
    (λ e bytes small r. w.0 e (bytes, small, r), λ n. w.1 (λ v. n v.0 v.1 v.2))

-- A file that the writer made, from a schedule or from a site, reads to that schedule again; what stood behind it in the slice stands there still.
pub schedule_made : (s : Schedule) (out new : List ℕ) (size : ℕ) → schedule_written s out ≡ (accepted size, new)
    → (schedule_read (take size new) ≡ accepted s) × (drop size new ≡ drop size out)
schedule_made s out new size e =
    made (schedule_passes s) (schedule_bytes s) out new size (λ file. schedule_read file ≡ accepted s) (λ t. (schedule_written_read s t).1) e

pub site_schedule_made : (s : Site) (out new : List ℕ) (size : ℕ) → written_if s (schedule_bytes (schedule_of s)) out ≡ (accepted size, new)
    → (schedule_read (take size new) ≡ accepted (schedule_of s)) × (drop size new ≡ drop size out)
site_schedule_made s out new size e =
    made (passes_of s) (schedule_bytes (schedule_of s)) out new size (λ file. schedule_read file ≡ accepted (schedule_of s)) (λ t. (site_schedule_read s t).1) e

-- A file that is accepted is written again to equal bytes, wherever there is room for them.
pub schedule_again : (bytes : List ℕ) (s : Schedule) → Bytes bytes → schedule_read bytes ≡ accepted s → (out : List ℕ) → length bytes ≤ length out
    → schedule_written s out ≡ (accepted (length bytes), bytes ++ drop (length bytes) out)
unfolding handed written
schedule_again bytes s small e out room =
    let w = schedule_form bytes small s e in simp ((passes_listed s).1 w.listed, ← w.are, le-ltb _ _ room)

-- The site's writer and the schedule's write the same bytes.
pub schedule_alike : (s : Site) (out : List ℕ) → passes_of s ≡ true → schedule_written (schedule_of s) out ≡ written_if s (schedule_bytes (schedule_of s)) out
unfolding schedule_of
schedule_alike s out e = rw (e, (site_schedule_read s e).0)

-- 02, U3. END alone is the plan of the empty site, and its schedule is END alone too; no other bytes read to these, and nothing else without links passes check 14.
pub end_alone : (bytes : List ℕ) → Bytes bytes → (read_of bytes ≡ accepted empty_site) ↔ (bytes ≡ 255 ∷ [])
unfolding plan_bytes command_bytes joined flow_if_live live
end_alone bytes small = (
  λ e. sym (read_written bytes empty_site small e),
  λ e. rw e (written_read empty_site empty_passes).1,
)

pub end_alone_schedule : (bytes : List ℕ) → Bytes bytes → (schedule_read bytes ≡ accepted without_links) ↔ (bytes ≡ 255 ∷ [])
unfolding schedule_bytes joined
end_alone_schedule bytes small = (
  λ e. sym (schedule_read_written bytes without_links small e),
  λ e. rw e (schedule_read_lem without_links without_listed),
)

pub end_alone_written : (plan_bytes empty_site ≡ 255 ∷ []) × (schedule_of empty_site ≡ without_links) × (schedule_bytes without_links ≡ 255 ∷ [])
unfolding plan_bytes command_bytes joined flow_if_live live schedule_of schedule_bytes
end_alone_written = (refl, refl, refl)

pub site_unlinked : (s : Site) → passes_of s ≡ true → s.links ≡ 0 → s ≡ empty_site
site_unlinked s e z = let w = (passes_parts s).0 e in linkless_empty s w.0 w.2 z

pub schedule_unlinked : (s : Schedule) → schedule_passes s ≡ true → s.links ≡ 0 → s ≡ without_links
schedule_unlinked s e z = listed_without s ((passes_listed s).0 e) z

-- With no link before it END is met only where it comes first: so U3 changed what becomes of files that begin with END, and of no others.
nothing_before : (bytes : List ℕ) (at : ℕ) → at ≤ length bytes → take at bytes ≡ [] → at ≡ 0
nothing_before bytes at l e = sym (length-take-le at bytes l) ∙ ap length e

pub begun_unlinked : (bytes : List ℕ) (at : ℕ) (s : Site) → Begun bytes at s → s.links ≡ 0 → at ≡ 0
unfolding command_bytes
begun_unlinked bytes at s b z =
    let idle : (n : ℕ) → flow_if_live s n ≡ [] = λ n. sym (idle_bytes s n (λ on. omega (arith, on, (linkless_idle s b.formed z n).idle))) in
    nothing_before bytes at b.within (b.are ∙ rw (joined_zero (node_bytes s) s.links 0 z, joined_none (flow_if_live s) 64 0 (λ n l. idle n)))

pub schedule_begun_unlinked : (bytes : List ℕ) (at : ℕ) (s : Schedule) → ScheduleBegun bytes at s → s.links ≡ 0 → at ≡ 0
schedule_begun_unlinked bytes at s b z = nothing_before bytes at b.within (b.are ∙ joined_zero (link_bytes s) s.links 0 z)

-- A byte after an END that comes first is refused by 10, in plans and in schedules.
pub end_first : (byte : ℕ) (rest : List ℕ) → (read_of (255 ∷ byte ∷ rest) ≡ refused 10 1) × (schedule_read (255 ∷ byte ∷ rest) ≡ refused 10 1)
unfolding read_of judge_form decode schedule_read read_on
end_first byte rest =
    let long : 0 + 1 < suc (suc (length rest)) = omega arith in (
      ap judge_form (read_end plans (255 ∷ byte ∷ rest) 0 blank (omega arith) refl ∙ ended_more _ _ _ long),
      read_end schedules (255 ∷ byte ∷ rest) 0 without_links (omega arith) refl ∙ ended_more _ _ _ long,
    )

-- And 9 no longer occurs: not for plans, not for schedules, not for writers.
pub plan_without_9 : (bytes : List ℕ) → Bytes bytes → (place : ℕ) → read_of bytes ≡ refused 9 place → ⊥
plan_without_9 bytes small place e = go ((refused_form bytes small 9 place).0 (e, omega arith))
  where
    go : FormFails bytes 9 place → ⊥
    go (no_end s b p n) = omega arith
    go (command s b l t f) = omega (arith, first_numbers bytes place s 9 f)
    go (more s at b t p l n) = omega arith

pub schedule_without_9 : (bytes : List ℕ) → Bytes bytes → (place : ℕ) → schedule_read bytes ≡ refused 9 place → ⊥
schedule_without_9 bytes small place e = go ((schedule_refused bytes small 9 place).0 e)
  where
    go : ScheduleFails bytes 9 place → ⊥
    go (no_end s b p n) = omega arith
    go (command s b l t f) = (check_numbers bytes place s 9 f).1 refl
    go (more s at b t p l n) = omega arith

pub writer_without_9 : (p : Bool) (bytes out new : List ℕ) (place : ℕ) → handed p bytes out ≡ (refused 9 place, new) → ⊥
writer_without_9 p bytes out new place e = ⊎_elim (λ w. omega (arith, w.1)) (λ w. omega (arith, w.2)) ((written_refused p bytes out new 9 place).0 e).2
