-- `u16`'s `read` reads a number of 2 bytes, which is two of 1; at the last byte the second is 0.
-- Assumes nothing.
use Rattle.octets.proofs.Words.{sym, ◌+◌, arith}
use Rattle.octets.proofs.NumberLaws.{num_add, num-past}
use Rattle.octets.proofs.stored.U16Stored.read.Goals as goal

pub returns-then-n-at : goal.returns-then-n-at
returns-then-n-at c = sym (num-past 2 _ _ c.if-n-at.true)

pub returns-then-n-at-ge2 : goal.returns-then-n-at-ge2
returns-then-n-at-ge2 c =
    let a = c.args in
    omega (arith, num_add 1 1 a.s.now a.at, c.byte.ensures.0, c.byte-then-n-at-ge2.ensures.0)

pub returns : goal.returns
returns c =
    let a = c.args in
    omega (arith, num_add 1 1 a.s.now a.at, num-past 1 a.s.now (a.at + 1) (omega (arith, c.if-n-at-ge2.false)))
