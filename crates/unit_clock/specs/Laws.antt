-- What holds of every step of the clock, as statements.
-- Assumes nothing.
use Rattle.std.specs.Prelude.{◌≡◌, ℕ, ◌+◌, ◌%◌, ◌^◌, ◌<◌, ◌≤◌, List, ℤ, pos, ◌-ℤ◌, ◌≤ℤ◌, unsigned_abs}
use Rattle.frame_beacons.specs.EitherBeacons.{either_in}
use Rattle.unit_clock.specs.Clock.{drift, corrected, beacon_step_of}

-- a step gives an offset of 32 bits
abbrev pub StaysWithinBits : Type 0
StaysWithinBits = (offset local original delay : ℕ) → corrected local offset original delay < 2 ^ 32

-- of whole numbers of ms, of which a time shows the lowest 32 bits, the drift is the exact difference, as long as that is a number of 32 bits with its sign
abbrev pub DriftIsExact : Type 0
DriftIsExact =
    (local offset original delay : ℕ) → local + offset < original + delay + 2 ^ 31 → original + delay ≤ local + offset + 2 ^ 31
    → drift (local % 2 ^ 32) (offset % 2 ^ 32) (original % 2 ^ 32) (delay % 2 ^ 32) ≡ pos (local + offset) -ℤ pos (original + delay)

-- after a step by a drift over 100 either way, the drift is 0
abbrev pub HardStepSettles : Type 0
HardStepSettles =
    (offset local original delay : ℕ) → 100 < unsigned_abs (drift local offset original delay)
    → drift local (corrected local offset original delay) original delay ≡ pos 0

-- the second of two drifts is no larger than the first, and has not the other sign
pub record NoWorse (before after : ℤ) : Type 0 where
  pub size : unsigned_abs after ≤ unsigned_abs before
  pub ahead : pos 0 ≤ℤ before → pos 0 ≤ℤ after
  pub behind : before ≤ℤ pos 0 → after ≤ℤ pos 0

-- no step makes the drift worse
abbrev pub NeverWorse : Type 0
NeverWorse =
    (offset local original delay : ℕ)
    → NoWorse (drift local offset original delay) (drift local (corrected local offset original delay) original delay)

-- an accepted step by a beacon's frame is the step by its two times, so that all this holds of it as well
abbrev pub StepsByItsTimes : Type 0
StepsByItsTimes =
    (offset local network : ℕ) (s : List ℕ) → (beacon_step_of offset local network s).refused ≡ 0
    → (beacon_step_of offset local network s).offset
    ≡ corrected local offset (either_in s).original_time (either_in s).delay
