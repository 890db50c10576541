-- `u8`'s `read` reads the byte at a place.
-- Assumes nothing.
use Rattle.octets.proofs.Words.{sym}
use Rattle.octets.proofs.NumberLaws.{num-one, num-past}
use Rattle.octets.proofs.stored.U8Stored.read.Goals as goal

pub returns-then-at-s : goal.returns-then-at-s
returns-then-at-s c = sym (num-one _ _)

pub returns-else-at-s : goal.returns-else-at-s
returns-else-at-s c = sym (num-past 1 _ _ c.if-at-s.false)
