-- What holds of every life, as statements.
-- Assumes nothing.
use Rattle.std.specs.Prelude.{◌≡◌, Bool, true, false, not, ◌&&◌, cond, List, [], ◌∷◌, ℕ, ◌+◌, ◌-◌, ◌*◌, ◌^◌, ◌%◌, ◌<◌, ◌≤◌, eqb}
use Rattle.octets.specs.Lists.{every}
use Rattle.moments.specs.Elapsed.{Clock, started, now_at, clock_after, last_of, IsTrue}
use Rattle.moments.specs.Moments.{age_at, in_order}
use Rattle.unit_life.specs.declared.state.State.{State}
use Rattle.unit_life.specs.Calls.{within_rule, fresh_state, on_event, superframe_rule, on_tick}
use Rattle.unit_life.specs.Histories.{Call, event, tick, time_of, is_tick, answer, run, all_at, steps_of, quiet, since_tick}
use Rattle.unit_life.specs.States.{Joining, Normal, Recovery, Stopped, ready, beacon, known, kind_after}

-- a fresh state is within rule, and so is what every accepted call gives: after a beacon in Joining, where the entry is in order with the beacon's time
abbrev pub KeepsRule : Type 0
KeepsRule =
    ((time : ℕ) → within_rule (fresh_state time) ≡ true)
    × ((s : State) (time : ℕ)
    → ((event : ℕ) → (on_event s event time).refused ≡ 0 → (s.kind ≡ Joining → event ≡ beacon → in_order s.entered time ≡ true)
    → within_rule (on_event s event time).state ≡ true)
    × ((ms : ℕ) → (on_tick s ms time).refused ≡ 0 → within_rule (on_tick s ms time).state ≡ true))

-- document 02's premise, in elapsed time: a tick is accepted at least every 2^30 ms, so that no call is accepted more than 2^30 ms after the last accepted
-- tick, or after the start
abbrev pub Ticking : Clock → State → List Call → Type 0
Ticking since s [] = Unit
Ticking since s (c ∷ cs) = ((answer s c).refused ≡ 0 → now_at since (time_of c) ≤ 2 ^ 30) × Ticking (since_tick since s c) (answer s c).state cs

-- then every state of a life is within rule
abbrev pub StaysWithinRule : Type 0
StaysWithinRule = (began : ℕ) (cs : List Call) → Ticking (started began) (fresh_state began) cs → within_rule (run (fresh_state began) cs) ≡ true

-- without ticks it need not be: beacons in Joining carry the last accepted time half of the way round past the entry
abbrev pub beacons_alone : List Call
beacons_alone = event ready 0 ∷ event beacon 0 ∷ event beacon (2 ^ 31 - 1) ∷ event beacon (2 ^ 31) ∷ []

abbrev pub LeavesRule : Type 0
LeavesRule = within_rule (run (fresh_state 0) beacons_alone) ≡ false

-- and 14 is never for the state: it is only for a superframe length that the caller names
abbrev pub wrong_superframe : Call → Bool
wrong_superframe (event number time) = false
wrong_superframe (tick ms time) = not (superframe_rule ms)

abbrev pub OnlyForSuperframes : Type 0
OnlyForSuperframes =
    (began : ℕ) (cs : List Call) (c : Call) → Ticking (started began) (fresh_state began) cs → (answer (run (fresh_state began) cs) c).refused ≡ 14
    → wrong_superframe c ≡ true

-- a call that is refused leaves the state as it was
abbrev pub RefusedKeeps : Type 0
RefusedKeeps = (s : State) (c : Call) → ((answer s c).refused ≡ 0 → ⊥) → (answer s c).state ≡ s

-- Stopped is never left
abbrev pub StaysStopped : Type 0
StaysStopped =
    (s : State) (time : ℕ) → s.kind ≡ Stopped
    → ((event : ℕ) → (on_event s event time).state.kind ≡ Stopped)
    × ((ms : ℕ) → (on_tick s ms time).state.kind ≡ Stopped)

-- every state within rule that is not Stopped has, at every time in order, a list of the nine events to Normal: there is no other trap
abbrev pub NoOtherTrap : Type 0
NoOtherTrap =
    (s : State) (time : ℕ) → within_rule s ≡ true → s.kind < Stopped → in_order s.last time ≡ true
    → (es : List ℕ) × (every known es ≡ true) × ((run s (all_at es time)).kind ≡ Normal)

-- a clock that began with the last beacon
abbrev pub since_beacon : State → Clock
since_beacon s = record { last = s.last; elapsed = age_at s.last s.beacon }

-- a unit in Normal that then hears no beacon: an accepted tick leads to Recovery if more than three superframes have elapsed since the last beacon, and else
-- stays in Normal
abbrev pub NoticesSilence : Type 0
NoticesSilence =
    (s : State) (cs : List Call) (ms time : ℕ) → within_rule s ≡ true → s.kind ≡ Normal → quiet (since_beacon s) s cs ≡ true
    → (on_tick (run s cs) ms time).refused ≡ 0
    → let silence = now_at (clock_after (since_beacon s) (steps_of s cs)) time in
    (3 * ms < silence → (on_tick (run s cs) ms time).state.kind ≡ Recovery)
    × (silence ≤ 3 * ms → (on_tick (run s cs) ms time).state.kind ≡ Normal)

-- entering Normal records a beacon, so that three superframes begin again
abbrev pub StartsAnew : Type 0
StartsAnew =
    (s : State) (event time : ℕ) → (on_event s event time).refused ≡ 0 → kind_after s.kind event ≡ Normal → (on_event s event time).state.beacon ≡ time

-- ---- true time
-- document 02's premise, in true time: each call's time is its true time modulo 2^32; accepted calls are made in order, each at most 2^30 ms after the last
-- accepted tick, or after the start
abbrev pub TicksTimely : ℕ → ℕ → State → List Call → List ℕ → Type 0
TicksTimely last ticked s [] nows = Unit
TicksTimely last ticked s (c ∷ cs) [] = ⊥
TicksTimely last ticked s (c ∷ cs) (now ∷ nows) =
    (time_of c ≡ now % 2 ^ 32)
    × (((answer s c).refused ≡ 0 → (last ≤ now) × (now ≤ ticked + 2 ^ 30))
    × TicksTimely (cond (eqb (answer s c).refused 0) now last) (cond (is_tick c && eqb (answer s c).refused 0) now ticked) (answer s c).state cs nows)

-- then ticks come in elapsed time as well, so that every state is within rule; and elapsed time is true time
abbrev pub TrueTime : Type 0
TrueTime =
    (began : ℕ) (cs : List Call) (nows : List ℕ)
    → let s = fresh_state (began % 2 ^ 32) in TicksTimely began began s cs nows
    → Ticking (started (began % 2 ^ 32)) s cs
    × IsTrue began (clock_after (started (began % 2 ^ 32)) (steps_of s cs)) (last_of began (steps_of s cs) nows)
