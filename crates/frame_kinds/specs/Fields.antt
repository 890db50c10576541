-- The fields that kinds are made of: bytes, halves and words that may hold any number, and those that have a rule.
-- Assumes nothing.
use Rattle.std.specs.Prelude.{ℕ, ◌&&◌, [], ◌∷◌, eqb, leb}
use Rattle.octets.specs.Addresses.{address, network}
use Rattle.frame_kinds.specs.Shape.{Field}

abbrev pub byte : Field
byte = record { width = 1; tests = [] }

abbrev pub half : Field
half = record { width = 2; tests = [] }

abbrev pub word : Field
word = record { width = 4; tests = [] }

-- a unit's address, and a network
abbrev pub unit : Field
unit = record { width = 2; tests = address ∷ [] }

abbrev pub net : Field
net = record { width = 2; tests = network ∷ [] }

-- a field of some width that has one number, or one from a lowest to a highest, or any but 0
abbrev pub only : ℕ → ℕ → Field
only width n = record { width = width; tests = (λ v. eqb v n) ∷ [] }

abbrev pub between : ℕ → ℕ → ℕ → Field
between width low high = record { width = width; tests = (λ v. leb low v && leb v high) ∷ [] }

abbrev pub nonzero : ℕ → Field
nonzero width = record { width = width; tests = leb 1 ∷ [] }
