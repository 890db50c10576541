-- `u32`'s `store`: four bytes, or what there is of them.
-- Assumes nothing.
use Rattle.octets.proofs.Words.{sym}
use Rattle.octets.specs.Numbers.{digits}
use Rattle.octets.proofs.StoreLaws.{sets-past}
use Rattle.octets.proofs.stored.U32Stored.store.Goals as goal

pub returns-then-n-at : goal.returns-then-n-at
returns-then-n-at c = sym (sets-past (digits 4 _) _ _ c.if-n-at.true)
