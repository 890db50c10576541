-- What a call on a state gives, as the theorems speak of it: the number that refuses it, and the state that then stands.
-- Assumes nothing.
use Rattle.std.specs.Prelude.{ℕ, Result}
use Rattle.octets.specs.Refusals.{status_of, held_after}
use Rattle.octets.specs.declared.refusals.Refusal.{Refusal}
use Rattle.unit_life.specs.declared.state.State.{State}

pub record Lived : Type 0 where
  pub refused : ℕ
  pub state : State

-- the state is as it was where the call is refused
abbrev pub lived_by : State → Result State Refusal → Lived
lived_by old answer = record { refused = status_of answer; state = held_after old answer }
