-- Calls one after the other: where they lead a unit.
-- Assumes nothing.
use Rattle.std.specs.Prelude.{ℕ, ◌*◌, Bool, true, false, not, ◌&&◌, ◌||◌, cond, List, [], ◌∷◌, map, eqb, leb}
use Rattle.moments.specs.Elapsed.{Clock, started, now_at, Step, moved}
use Rattle.unit_life.specs.declared.state.State.{State}
use Rattle.unit_life.specs.Outcomes.{Lived}
use Rattle.unit_life.specs.Calls.{on_event, on_tick}

-- a call: an event's number and a time, or a tick's superframe in ms and a time
pub data Call : Type 0 where
  event : ℕ → ℕ → Call
  tick : ℕ → ℕ → Call

-- when it is made
abbrev pub time_of : Call → ℕ
time_of (event number time) = time
time_of (tick ms time) = time

abbrev pub is_tick : Call → Bool
is_tick (event number time) = false
is_tick (tick ms time) = true

abbrev pub answer : State → Call → Lived
answer s (event number time) = on_event s number time
answer s (tick ms time) = on_tick s ms time

-- the state after a list of calls
abbrev pub run : State → List Call → State
run s [] = s
run s (c ∷ cs) = run (answer s c).state cs

-- events, all at one time
abbrev pub all_at : List ℕ → ℕ → List Call
all_at numbers time = map (λ number. event number time) numbers

-- ---- elapsed time
-- a call as a step of it: every call that is accepted counts
abbrev pub step_of : State → Call → Step
step_of s c = record { time = time_of c; changes = eqb (answer s c).refused 0 }

abbrev pub steps_of : State → List Call → List Step
steps_of s [] = []
steps_of s (c ∷ cs) = step_of s c ∷ steps_of (answer s c).state cs

-- a tick no more than three superframes after a beacon, by a clock that began with it
abbrev pub early : Clock → Call → Bool
early since (event number time) = false
early since (tick ms time) = leb (now_at since time) (3 * ms)

-- since that beacon each call was refused or was such a tick: no beacon was heard, and silence was not yet noticed
abbrev pub quiet : Clock → State → List Call → Bool
quiet since s [] = true
quiet since s (c ∷ cs) = (not (eqb (answer s c).refused 0) || early since c) && quiet (moved since (step_of s c)) (answer s c).state cs

-- the clock that began with the last accepted tick, or with the start, after one more call
abbrev pub since_tick : Clock → State → Call → Clock
since_tick since s (event number time) = moved since (step_of s (event number time))
since_tick since s (tick ms time) = cond (eqb (on_tick s ms time).refused 0) (started time) since
