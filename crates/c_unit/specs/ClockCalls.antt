-- What the call on the clock returns and leaves.
-- Assumes nothing.
use Rattle.std.specs.Prelude.{ℕ, List}
use Rattle.octets.specs.Calls.{after}
use Rattle.unit_clock.specs.Clock.{beacon_step_of}

-- the status, and the caller's offset
pub record ClockLeft : Type 0 where
  pub status : ℕ
  pub offset : ℕ

abbrev pub clock_left : ℕ → ℕ → ClockLeft
clock_left status offset = record { status = status; offset = offset }

unfoldable pub clock_call : ℕ → ℕ → ℕ → List ℕ → ClockLeft
clock_call offset local network s =
    let stepped = beacon_step_of offset local network s in
    clock_left stepped.refused (after stepped.refused offset stepped.offset)
