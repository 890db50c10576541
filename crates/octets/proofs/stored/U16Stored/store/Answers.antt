-- `u16`'s `store`: two bytes, or what there is of them.
-- Assumes nothing.
use Rattle.octets.proofs.Words.{sym, arith, rules, length-set}
use Rattle.octets.specs.Numbers.{digits}
use Rattle.octets.proofs.StoreLaws.{sets-past, two_bytes}
use Rattle.octets.proofs.stored.U16Stored.store.Goals as goal

pub returns-then-n-at : goal.returns-then-n-at
returns-then-n-at c = sym (sets-past (digits 2 _) _ _ c.if-n-at.true)

pub bounds-out-at-2 : goal.bounds-out-at-2
bounds-out-at-2 c = simp length-set (omega arith)

pub returns : goal.returns
returns c = two_bytes _ _ _ (search rules)
