-- What a step of the clock gives, as the theorems speak of it: the number that refuses it, and the offset that then stands.
-- Assumes nothing.
use Rattle.std.specs.Prelude.{ℕ, Result}
use Rattle.octets.specs.Refusals.{status_of, held_after}
use Rattle.octets.specs.declared.refusals.Refusal.{Refusal}

pub record Stepped : Type 0 where
  pub refused : ℕ
  pub offset : ℕ

-- the offset is as it was where the step is refused
abbrev pub stepped_by : ℕ → Result ℕ Refusal → Stepped
stepped_by old answer = record { refused = status_of answer; offset = held_after old answer }
