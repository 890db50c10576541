-- A part of lent bytes: where it lies, and what it holds.
-- Assumes nothing.
use Rattle.std.specs.Prelude.{ℕ, ◌+◌, min, List, length, take, drop}
use Rattle.std.specs.Borrow.{Bor}

-- a lent slice as code has it: the block of memory that it lies in, the byte of it that it starts at, and its bytes
pub record Lent : Type 0 where
  pub block : ℕ
  pub start : ℕ
  pub bytes : List ℕ

abbrev pub lent : Bor (List ℕ) → Lent
lent s = record { block = s.ref_ptr.0; start = s.ref_ptr.1; bytes = s.now }

-- the part of it that starts at a place and has so many bytes, or what there is of it; past the end it is the empty part at the end
abbrev pub part_of : Lent → ℕ → ℕ → Lent
part_of s at count = record { block = s.block; start = s.start + min at (length s.bytes); bytes = take count (drop at s.bytes) }
