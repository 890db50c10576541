-- `u8`'s `store`: one byte.
-- Assumes nothing.
use Rattle.octets.proofs.Words.{sym, rules}
use Rattle.octets.specs.Numbers.{digits}
use Rattle.octets.proofs.StoreLaws.{sets-past, one_byte}
use Rattle.octets.proofs.stored.U8Stored.store.Goals as goal

pub returns-then-out-at : goal.returns-then-out-at
returns-then-out-at c = sym (sets-past (digits 1 _) _ _ c.if-out-at.true)

pub returns : goal.returns
returns c = one_byte _ _ _ (search rules)
