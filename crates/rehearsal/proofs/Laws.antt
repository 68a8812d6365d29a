-- What is proved of a rehearsal as it is typed: demand 3 of 01 holds of it, and all answers are handed out whole. The modules named here hold the lemmas.
pub mod Typing
pub mod Runs
pub mod Whole
use Prim.Native.Nat.{ℕ}
use mathlib.Core.Path.{◌≡◌, refl}
use mathlib.Core.Bool.{true}
use mathlib.Core.List.{List, [], ◌++◌}
use lib.ListN.{length, take, drop}
use Rattle.rulings.specs.Outcome.{Ruling, accepted}
use Rattle.site.specs.declared.Site.{Site}
use Rattle.site.specs.Sites.{live}
use Rattle.site_check.specs.Check.{passes_of}
use Rattle.format.specs.Words.{Bytes}
use Rattle.text.specs.Put.{text_of}
use Rattle.plan_reader.specs.Read.{read_of}
use Rattle.plan.proofs.Laws.{passes_when}
use Rattle.site_check.proofs.Laws.{passes_sound}
use Rattle.moves.specs.Moves.{recounted}
use Rattle.simulation.specs.Slot.{start_of}
use Rattle.simulation.proofs.Laws.{starts_when}
use Rattle.moves.specs.Hops.{own}
use Rattle.guarantee.specs.Runs.{State, Run, none, start, called}
use Rattle.guarantee.specs.Demand.{Begins, Allowed, Kept}
use Rattle.guarantee.specs.Words.{Sized}
use Rattle.guarantee.proofs.Laws.{demand3, start_begins, promised, run_sized, start_sized}
use Rattle.rehearsal.specs.Desk.{begun, desk, fed, AtDesk, AllTaken}
use Rattle.rehearsal.proofs.Laws.Runs.{fed_append, typed_run}
use Rattle.rehearsal.proofs.Laws.Whole.{answers_whole}

-- Demand 3 of what is typed, from any moment on at which a live flow's cells are 0, as its admission or a start of the rehearsal leaves them: the calls of the lines
-- typed from there on are the list, and what 01 claims of the list holds of the site and the counters that the rehearsal has then.
pub typed_kept : (room f : ℕ) (σ₀ : State) (line typed : List ℕ) → Begins f σ₀
    → Allowed f σ₀.site (fed room (record { calls = []; state = σ₀; line = line; text = [] }) typed).calls
    → Kept own f σ₀ (fed room (record { calls = []; state = σ₀; line = line; text = [] }) typed).calls
    (fed room (record { calls = []; state = σ₀; line = line; text = [] }) typed).state
    (typed_run room σ₀ (record { calls = []; state = σ₀; line = line; text = [] }) typed none)
typed_kept room f σ₀ line typed b d = demand3 f σ₀ _ _ _ b d

start_goes : (s : Site) (counters : List ℕ) → length counters ≡ 576 → passes_of s ≡ true
    → (called own start (record { site = s; counters = counters })).0 ≡ accepted tt
unfolding called start_of recounted
start_goes s counters long passes = (starts_when s counters).1 (long, (passes_sound s).0 passes)

site_stays : (s : Site) (counters : List ℕ) → (begun s counters).site ≡ s
unfolding called
site_stays s counters = refl

-- So from the start of a rehearsal of plan bytes on it holds of every live flow, whatever is typed within 01's premises.
pub rehearsed_kept : (room : ℕ) (bytes : List ℕ) (s : Site) → Bytes bytes → read_of bytes ≡ accepted s → (counters : List ℕ) → length counters ≡ 576
    → (f : ℕ) → live s f ≡ true → (typed : List ℕ) → Allowed f s (fed room (desk (begun s counters)) typed).calls
    → Kept own f (begun s counters) (fed room (desk (begun s counters)) typed).calls (fed room (desk (begun s counters)) typed).state
    (typed_run room (begun s counters) (desk (begun s counters)) typed none)
rehearsed_kept room bytes s small read counters long f on typed d =
    let σ : State = record { site = s; counters = counters } in
    let goes : (called own start σ).0 ≡ accepted tt = start_goes s counters long ((passes_when s).1 (bytes, small, read)) in
    typed_kept room f (begun s counters) [] typed (start_begins own σ (begun s counters) f on (rw goes at (promised own start σ))) (rw site_stays d)

-- What is typed keeps the site one that check 14 lets pass, and the counters 576 of 32 bits.
pub typed_sized : (room : ℕ) (σ : State) (typed : List ℕ) → Sized σ → Sized (fed room (desk σ) typed).state
typed_sized room σ typed w = run_sized σ _ _ (typed_run room σ (desk σ) typed none) w

-- All answers of a rehearsal of plan bytes are handed out whole: whatever was typed before, the text that the bytes taken up next add to the answers stands in the space
-- of the answers, which stays as it was behind it.
pub rehearsed_whole : (bytes : List ℕ) (s : Site) → Bytes bytes → read_of bytes ≡ accepted s → (counters : List ℕ) → length counters ≡ 576
    → (typed more space₀ out₀ : List ℕ) (σ₀ : State) (kept₀ taken : ℕ) (σ : State) (space : List ℕ) (kept : ℕ) (t : ℕ × List ℕ)
    → AtDesk (fed (length space₀) (desk (begun s counters)) typed) σ₀ space₀ kept₀ → AllTaken more space₀ out₀ σ₀ kept₀ taken σ space kept t
    → (text : List ℕ) × (text_of (fed (length space₀) (desk (begun s counters)) (typed ++ take taken more)).text
    ≡ text_of (fed (length space₀) (desk (begun s counters)) typed).text ++ text) × (t ≡ (length text, text ++ drop (length text) out₀))
rehearsed_whole bytes s small read counters long typed more space₀ out₀ σ₀ kept₀ taken σ space kept t h w =
    let first : State = record { site = s; counters = counters } in
    let goes : (called own start first).0 ≡ accepted tt = start_goes s counters long ((passes_when s).1 (bytes, small, read)) in
    let sized : Sized (begun s counters) = start_sized first (begun s counters) (rw goes at (promised own start first)) in
    rw (← fed_append (length space₀) (desk (begun s counters)) typed (take taken more))
    (answers_whole more space₀ out₀ σ₀ kept₀ taken σ space kept t w
    (rw (← h.state) at (typed_sized (length space₀) (begun s counters) typed sized)) (fed (length space₀) (desk (begun s counters)) typed) h)
