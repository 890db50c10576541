-- What the check of a sheet comes to, as numbers.
-- Assumes nothing.
use Rattle.std.specs.Prelude.{ℕ}

-- why there is no answer, how many units are named, and these, 0 where none is
pub record Finding : Type 0 where
  pub refused : ℕ
  pub named : ℕ
  pub lower : ℕ
  pub higher : ℕ
