-- `byte` is a number of 1 byte.
-- Assumes nothing.
use Rattle.octets.proofs.Words.{sym, ◌∙◌, arith}
use Rattle.octets.proofs.NumberLaws.{num-one}
use Rattle.octets.proofs.stored.byte.Goals as goal

pub returns : goal.returns
returns c = (c.from.ensures ∙ sym (num-one _ _), rw c.from.ensures (omega (arith, c.type_inv.s c.args.at)))
