-- Lists of calls on plan P, oldest first, and what they come to.
use Rattle.std.specs.Prelude.{ℕ, zero, suc, ◌+◌, List, [], ◌∷◌, ◌++◌, replicate}
use Rattle.rulings.specs.Outcome.{accepted, refused}
use Rattle.site.specs.declared.Flow.{Flow}
use Rattle.moves.specs.Hops.{own}
use Rattle.guarantee.specs.Runs.{Call, slot, admit, release, State, called, Log}
use Rattle.proved_examples.specs.Table.{read_p, counters}

-- The log and the state after these calls, from a log and a state.
unfoldable pub played : List Call → Log → State → Log × State
played [] l σ = (l, σ)
played (c ∷ cs) l σ = played cs ((c, (called own c σ).0) ∷ l) (called own c σ).1

-- Plan P as it is read. The cells of flow 0 are 0, all others are not.
unfoldable pub state_p : State
state_p = record { site = read_p; counters = replicate 9 0 ++ counters 567 9 }

-- So many arrivals for flow 0, and for flow 5.
abbrev pub arrivals_p : ℕ → ℕ → List ℕ
arrivals_p x y = x ∷ 0 ∷ 0 ∷ 0 ∷ 0 ∷ y ∷ replicate 58 0

-- The n slots from number t on with these arrivals; and the log with them on top, every one accepted.
abbrev pub slots_from : ℕ → ℕ → List ℕ → List Call
slots_from zero t xs = []
slots_from (suc n) t xs = slot t xs ∷ slots_from n (t + 1) xs

abbrev pub accepted_from : ℕ → ℕ → List ℕ → Log → Log
accepted_from zero t xs l = l
accepted_from (suc n) t xs l = (slot (t + n) xs, accepted tt) ∷ accepted_from n t xs l

-- 02, U2, lets this flow in: on link 2 its width is 16 of 20 by the period, 4, and was 24 by the wanted gap, 6; G is 4.
abbrev pub flow_five : Flow
flow_five = record { number = 5; entry = 2; rate = 4; deadline = 5 }

-- Flow 5 is admitted, and refused when it comes again; flow 6, which is not live, is not released; nine slots, in which flow 5 gets more than its rate; a slot with 63
-- arrivals, of any number, is refused; eight slots more, the last of number 16. In every slot flow 0 gets its rate. And then flow 5 is released.
abbrev pub busy : List Call
busy =
    admit flow_five ∷ admit flow_five ∷ release 6
    ∷ (slots_from 9 0 (arrivals_p 3 40) ++ (slot 77 (replicate 63 9) ∷ slots_from 8 9 (arrivals_p 3 0)))

abbrev pub mixed : List Call
mixed = busy ++ (release 5 ∷ [])

-- Its log: the calls before the slots; these, nine slots and the refused one; all before the release of flow 5; and all of it.
abbrev pub admitted : Log
admitted = (release 6, refused 16 6) ∷ (admit flow_five, refused 15 5) ∷ (admit flow_five, accepted tt) ∷ []

abbrev pub half : Log
half = (slot 77 (replicate 63 9), refused 1 0) ∷ accepted_from 9 0 (arrivals_p 3 40) admitted

abbrev pub busy_log : Log
busy_log = accepted_from 8 9 (arrivals_p 3 0) half

abbrev pub mixed_log : Log
mixed_log = (release 5, accepted tt) ∷ busy_log

-- The slots 0 to 15 with three arrivals each.
abbrev pub sixteen : List Call
sixteen = slots_from 16 0 (arrivals_p 3 0)

-- A lone packet in slot 10, and n slots after it.
abbrev pub lone : ℕ → List Call
lone n = slot 10 (arrivals_p 1 0) ∷ slots_from n 11 (arrivals_p 0 0)

abbrev pub lone_log : ℕ → Log
lone_log n = accepted_from n 11 (arrivals_p 0 0) (accepted_from 1 10 (arrivals_p 1 0) [])

-- Plan P with flow 5 just admitted.
unfoldable pub state_five : State
state_five = (called own (admit flow_five) state_p).1

-- n slots from number 2 on in which flow 5 gets its rate. Link 2 sends in slot 5 for the first time.
abbrev pub paced_slots : ℕ → List Call
paced_slots n = slots_from n 2 (arrivals_p 0 4)

abbrev pub paced_log : ℕ → Log
paced_log n = accepted_from n 2 (arrivals_p 0 4) []
