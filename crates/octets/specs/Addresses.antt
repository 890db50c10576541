-- Addresses and networks: the rules that frames, rows and arguments share.
-- Assumes nothing.
use Rattle.std.specs.Prelude.{ℕ, Bool, ◌&&◌, leb}

-- a unit's address is 1 to 0xFFFE
abbrev pub address : ℕ → Bool
address n = leb 1 n && leb n 0xFFFE

-- a network is not 0
abbrev pub network : ℕ → Bool
network n = leb 1 n
