-- What of a frame counts in a choice, and what the choice gives, as the theorems speak of them: numbers, of which the one that refuses is 0 where none does.
-- Assumes nothing.
use Rattle.std.specs.Prelude.{ℕ, Result, Ok, Err}
use Rattle.octets.specs.Refusals.{number_of}
use Rattle.octets.specs.declared.refusals.Refusal.{Refusal}
use Rattle.unit_choice.specs.declared.choosing.Which.{Which}
use Rattle.unit_choice.specs.declared.choosing.Standing.{Standing}

pub record Rank : Type 0 where
  pub refused : ℕ
  pub hop : ℕ
  pub quality : ℕ

-- the standing of one that nothing refuses
abbrev pub ranked : Standing → Rank
ranked s = record { refused = 0; hop = s.hop; quality = s.quality }

-- which of the two is to be followed, 0 or 1; 0 where the choice is refused
pub record Chosen : Type 0 where
  pub refused : ℕ
  pub which : ℕ

abbrev pub chosen_by : Result Which Refusal → Chosen
chosen_by (Ok Which.First) = record { refused = 0; which = 0 }
chosen_by (Ok Which.Second) = record { refused = 0; which = 1 }
chosen_by (Err r) = record { refused = number_of r; which = 0 }
