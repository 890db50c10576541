-- What holds of the bytes of every state that comes from a fresh one, or from any stored one, by calls from C, as statements.
-- Assumes nothing.
use Rattle.std.specs.Prelude.{◌≡◌, true, ◌&&◌, cond, List, [], ◌∷◌, ℕ, ◌+◌, ◌*◌, ◌^◌, ◌%◌, ◌<◌, ◌≤◌, eqb, length}
use Rattle.octets.specs.Layouts.{Bytes}
use Rattle.moments.specs.Elapsed.{Clock, started, now_at, clock_after, last_of, IsTrue}
use Rattle.moments.specs.Moments.{in_order}
use Rattle.unit_life.specs.declared.state.State.{State}
use Rattle.unit_life.specs.States.{Normal, Recovery, Stopped}
use Rattle.unit_life.specs.Calls.{within_rule, fresh_state}
use Rattle.unit_life.specs.Histories.{Call, event, tick, time_of, is_tick, answer, run, all_at}
use Rattle.unit_life.specs.Laws.{wrong_superframe, since_beacon}
use Rattle.unit_life.specs.StateBytes.{state_size, state_in, bytes_of_state}
use Rattle.unit_life.specs.StateTrips.{StateSized}
use Rattle.c_unit.specs.StateCalls.{fresh_call, event_call, tick_call}
use Rattle.c_history.specs.HeldStates.{Machine, leaves, buffer_after, AllMachine, steps_in_c, quiet_in_c, since_tick_in_c}

-- ---- storing
-- a fresh state's numbers fit their bytes, and a call that is given such a state leaves such a state, accepted or refused
abbrev pub SizedKept : Type 0
SizedKept =
    ((began : ℕ) → began < 0x100000000 → StateSized (fresh_state began))
    × ((s : State) (c : Call) → Machine c → StateSized s → StateSized (answer s c).state)

-- From an accepted `braidlark_state_fresh` on, over any list of calls from C, accepted or refused: the buffer holds exactly the bytes of the state that the
-- same calls give on values
abbrev pub StaysStored : Type 0
StaysStored =
    (s : List ℕ) (began : ℕ) (cs : List Call) → began < 0x100000000 → AllMachine cs → (fresh_call s began).status ≡ 0
    → buffer_after (fresh_call s began).state cs ≡ bytes_of_state (run (fresh_state began) cs)

-- the same from any 13 bytes on, as from flash
abbrev pub StoredFrom : Type 0
StoredFrom =
    (s : List ℕ) (cs : List Call) → Bytes s → length s ≡ state_size → AllMachine cs → buffer_after s cs ≡ bytes_of_state (run (state_in s) cs)

-- a call that is refused leaves the buffer as it was, whatever the buffer holds
abbrev pub RefusedLeaves : Type 0
RefusedLeaves = (s : List ℕ) (c : Call) → ((leaves s c).status ≡ 0 → ⊥) → (leaves s c).state ≡ s

-- ---- living
-- document 02's premise, in elapsed time by the statuses: no call answers 0 more than 2^30 ms after the last tick that did, or after the start
abbrev pub TickingInC : Clock → List ℕ → List Call → Type 0
TickingInC since s [] = Unit
TickingInC since s (c ∷ cs) = ((leaves s c).status ≡ 0 → now_at since (time_of c) ≤ 2 ^ 30) × TickingInC (since_tick_in_c since s c) (leaves s c).state cs

-- from a fresh state on, where ticks come so, the state in the buffer is within rule, and 14 is only for a superframe length that the caller names
abbrev pub OnlyForSuperframesInC : Type 0
OnlyForSuperframesInC =
    (s : List ℕ) (began : ℕ) (cs : List Call) → began < 0x100000000 → AllMachine cs → (fresh_call s began).status ≡ 0
    → TickingInC (started began) (fresh_call s began).state cs
    → let held = buffer_after (fresh_call s began).state cs in
    (within_rule (state_in held) ≡ true) × ((c : Call) → (leaves held c).status ≡ 14 → wrong_superframe c ≡ true)

-- from any stored state on: Stopped is never left
abbrev pub StaysStoppedInC : Type 0
StaysStoppedInC =
    (s : List ℕ) (cs : List Call) → Bytes s → length s ≡ state_size → AllMachine cs → (state_in s).kind ≡ Stopped
    → (state_in (buffer_after s cs)).kind ≡ Stopped

-- there is no other trap: if the state in the buffer is within rule and not Stopped, there is at every time in order a list of events that C can hand over
-- and that leaves Normal
abbrev pub NoOtherTrapInC : Type 0
NoOtherTrapInC =
    (s : List ℕ) (time : ℕ) → Bytes s → length s ≡ state_size → time < 0x100000000
    → within_rule (state_in s) ≡ true → (state_in s).kind < Stopped → in_order (state_in s).last time ≡ true
    → (es : List ℕ) × AllMachine (all_at es time) × ((state_in (buffer_after s (all_at es time))).kind ≡ Normal)

-- a unit in Normal that then hears no beacon: a tick whose status is 0 leaves Recovery if more than three superframes have elapsed since the last beacon, and
-- else Normal
abbrev pub NoticesSilenceInC : Type 0
NoticesSilenceInC =
    (s : List ℕ) (cs : List Call) (ms time : ℕ) → Bytes s → length s ≡ state_size → AllMachine cs → Machine (tick ms time)
    → let since = since_beacon (state_in s) in
    let left = tick_call (buffer_after s cs) ms time in
    let silence = now_at (clock_after since (steps_in_c s cs)) time in
    within_rule (state_in s) ≡ true → (state_in s).kind ≡ Normal → quiet_in_c since s cs ≡ true → left.status ≡ 0
    → (3 * ms < silence → (state_in left.state).kind ≡ Recovery) × (silence ≤ 3 * ms → (state_in left.state).kind ≡ Normal)

-- an event whose status is 0 and that leaves Normal leaves its own time as that of the last beacon, so that three superframes begin again
abbrev pub StartsAnewInC : Type 0
StartsAnewInC =
    (s : List ℕ) (number time : ℕ) → Bytes s → length s ≡ state_size → Machine (event number time)
    → let left = event_call s number time in
    left.status ≡ 0 → (state_in left.state).kind ≡ Normal → (state_in left.state).beacon ≡ time

-- ---- true time
-- document 02's premise, in true time by the statuses: each call's time is its true time modulo 2^32; calls that answer 0 are made in order, each at most
-- 2^30 ms after the last tick that did, or after the start
abbrev pub TicksTimelyInC : ℕ → ℕ → List ℕ → List Call → List ℕ → Type 0
TicksTimelyInC last ticked s [] nows = Unit
TicksTimelyInC last ticked s (c ∷ cs) [] = ⊥
TicksTimelyInC last ticked s (c ∷ cs) (now ∷ nows) =
    (time_of c ≡ now % 2 ^ 32)
    × (((leaves s c).status ≡ 0 → (last ≤ now) × (now ≤ ticked + 2 ^ 30))
    × TicksTimelyInC (cond (eqb (leaves s c).status 0) now last) (cond (is_tick c && eqb (leaves s c).status 0) now ticked) (leaves s c).state cs nows)

-- then ticks come in elapsed time as well, and elapsed time is true time
abbrev pub TrueTimeInC : Type 0
TrueTimeInC =
    (s : List ℕ) (began : ℕ) (cs : List Call) (nows : List ℕ) → AllMachine cs
    → let time = began % 2 ^ 32 in (fresh_call s time).status ≡ 0
    → let held = (fresh_call s time).state in TicksTimelyInC began began held cs nows
    → TickingInC (started time) held cs × IsTrue began (clock_after (started time) (steps_in_c held cs)) (last_of began (steps_in_c held cs) nows)
