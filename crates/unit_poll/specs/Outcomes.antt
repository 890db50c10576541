-- What is said of the winner, as the theorems speak of it: the number that refuses, and who it is.
-- Assumes nothing.
use Rattle.std.specs.Prelude.{ℕ, Result, Ok, Err}
use Rattle.octets.specs.Refusals.{number_of}
use Rattle.octets.specs.declared.refusals.Refusal.{Refusal}

-- nobody is named where it is refused
pub record Named : Type 0 where
  pub refused : ℕ
  pub unit : ℕ

abbrev pub named : Result ℕ Refusal → Named
named (Ok unit) = record { refused = 0; unit = unit }
named (Err r) = record { refused = number_of r; unit = 0 }
