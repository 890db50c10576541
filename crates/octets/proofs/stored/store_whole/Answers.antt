-- `store_whole`: four bytes.
-- Assumes nothing.
use Rattle.octets.proofs.Words.{arith, length-set}
use Rattle.octets.proofs.StoreLaws.{four_bytes}
use Rattle.octets.proofs.stored.store_whole.Goals as goal

pub bounds-out-at-2 : goal.bounds-out-at-2
bounds-out-at-2 c = simp length-set (omega arith)

pub bounds-out-at-3 : goal.bounds-out-at-3
bounds-out-at-3 c = simp length-set (omega arith)

pub bounds-out-at-4 : goal.bounds-out-at-4
bounds-out-at-4 c = simp length-set (omega arith)

pub returns : goal.returns
returns c = (four_bytes _ _ _, simp length-set)
