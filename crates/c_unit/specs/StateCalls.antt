-- What the three calls on a state return and leave.
-- Assumes nothing.
use Rattle.std.specs.Prelude.{ℕ, List}
use Rattle.octets.specs.Calls.{after, stored}
use Rattle.unit_life.specs.Outcomes.{Lived}
use Rattle.unit_life.specs.Calls.{fresh_state, on_event, on_tick}
use Rattle.unit_life.specs.StateBytes.{state_size, state_in, state_over}

-- the status, and the buffer that holds the state
pub record StateLeft : Type 0 where
  pub status : ℕ
  pub state : List ℕ

abbrev pub state_left : ℕ → List ℕ → StateLeft
state_left status state = record { status = status; state = state }

-- a call over a buffer that answers so: 14 where the buffer has not a state's size, else the answer's number, and the next state where that is 0
abbrev pub leaves : List ℕ → Lived → StateLeft
leaves held lived =
    let status = stored state_size held lived.refused in
    state_left status (after status held (state_over held lived.state))

unfoldable pub fresh_call : List ℕ → ℕ → StateLeft
fresh_call held time = leaves held (record { refused = 0; state = fresh_state time })

unfoldable pub event_call : List ℕ → ℕ → ℕ → StateLeft
event_call held event time = leaves held (on_event (state_in held) event time)

unfoldable pub tick_call : List ℕ → ℕ → ℕ → StateLeft
tick_call held ms time = leaves held (on_tick (state_in held) ms time)
