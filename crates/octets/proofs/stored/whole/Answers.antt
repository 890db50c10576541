-- `whole`: a number of 4 bytes is four of 1.
-- Assumes nothing.
use Rattle.octets.proofs.Words.{arith}
use Rattle.octets.proofs.NumberLaws.{num_four}
use Rattle.octets.proofs.stored.whole.Goals as goal

pub returns : goal.returns
returns c =
    let a = c.args in
    omega (arith, num_four a.s.now a.at, c.byte.ensures.0, c.byte-2.ensures.0, c.byte-3.ensures.0, c.byte-4.ensures.0)
