-- Calls from C on a unit's state that firmware holds as 13 bytes, one after the other, from a fresh state or from any stored one on; and what their statuses
-- alone say of elapsed time and of silence.
-- Assumes nothing.
use Rattle.std.specs.Prelude.{ℕ, ◌<◌, Bool, true, not, ◌&&◌, ◌||◌, cond, List, [], ◌∷◌, eqb}
use Rattle.moments.specs.Elapsed.{Clock, started, Step, moved}
use Rattle.unit_life.specs.Histories.{Call, event, tick, time_of, early}
use Rattle.c_unit.specs.StateCalls.{StateLeft, event_call, tick_call}

-- arguments that C can hand over: an event's number of 8 bits, a superframe's length and a time of 32
abbrev pub Machine : Call → Type 0
Machine (event number time) = (number < 0x100) × (time < 0x100000000)
Machine (tick ms time) = (ms < 0x100000000) × (time < 0x100000000)

-- what a call returns and leaves
abbrev pub leaves : List ℕ → Call → StateLeft
leaves s (event number time) = event_call s number time
leaves s (tick ms time) = tick_call s ms time

-- ---- calls one after the other
abbrev pub buffer_after : List ℕ → List Call → List ℕ
buffer_after s [] = s
buffer_after s (c ∷ cs) = buffer_after (leaves s c).state cs

abbrev pub AllMachine : List Call → Type 0
AllMachine [] = Unit
AllMachine (c ∷ cs) = Machine c × AllMachine cs

-- ---- elapsed time
-- a call as a step of it: every call whose status is 0 counts
abbrev pub step_in_c : List ℕ → Call → Step
step_in_c s c = record { time = time_of c; changes = eqb (leaves s c).status 0 }

abbrev pub steps_in_c : List ℕ → List Call → List Step
steps_in_c s [] = []
steps_in_c s (c ∷ cs) = step_in_c s c ∷ steps_in_c (leaves s c).state cs

-- since the beacon that a clock began with, each call was refused, as its status says, or was a tick no more than three superframes after that beacon
abbrev pub quiet_in_c : Clock → List ℕ → List Call → Bool
quiet_in_c since s [] = true
quiet_in_c since s (c ∷ cs) = (not (eqb (leaves s c).status 0) || early since c) && quiet_in_c (moved since (step_in_c s c)) (leaves s c).state cs

-- the clock that began with the last tick whose status was 0, or with the start, after one more call
abbrev pub since_tick_in_c : Clock → List ℕ → Call → Clock
since_tick_in_c since s (event number time) = moved since (step_in_c s (event number time))
since_tick_in_c since s (tick ms time) = cond (eqb (tick_call s ms time).status 0) (started time) since
