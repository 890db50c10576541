-- `u64`'s `read` reads a number of 8 bytes, which is two of 4.
-- Assumes nothing.
use Rattle.octets.proofs.Words.{sym, arith}
use Rattle.octets.proofs.NumberLaws.{num_add, num-past}
use Rattle.octets.proofs.stored.U64Stored.read.Goals as goal

pub returns-then-n-at : goal.returns-then-n-at
returns-then-n-at c = sym (num-past 8 _ _ c.if-n-at.true)

pub returns-then-n-at-ge8 : goal.returns-then-n-at-ge8
returns-then-n-at-ge8 c =
    let a = c.args in
    omega (arith, num_add 4 4 a.s.now a.at)

pub returns : goal.returns
returns c =
    let a = c.args in
    omega (arith, num_add 4 4 a.s.now a.at)
