-- `u32`'s `read` reads a number of 4 bytes; near the end it is two of 2.
-- Assumes nothing.
use Rattle.octets.proofs.Words.{sym, arith}
use Rattle.octets.proofs.NumberLaws.{num_add, num-past}
use Rattle.octets.proofs.stored.U32Stored.read.Goals as goal

pub returns-then-n-at : goal.returns-then-n-at
returns-then-n-at c = sym (num-past 4 _ _ c.if-n-at.true)

pub returns : goal.returns
returns c =
    let a = c.args in
    omega (arith, num_add 2 2 a.s.now a.at)
