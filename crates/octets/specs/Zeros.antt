-- Needs no belief, laws carry it to lists of zeros: a number that is 0, and bytes that all are from a place on.
-- Assumes nothing.
use Rattle.std.specs.Prelude.{ℕ, Bool, List, eqb, drop}
use Rattle.octets.specs.Lists.{every}

abbrev pub is_zero : ℕ → Bool
is_zero n = eqb n 0

-- every byte from a place on is 0
abbrev pub zeros_from : ℕ → List ℕ → Bool
zeros_from at s = every is_zero (drop at s)
