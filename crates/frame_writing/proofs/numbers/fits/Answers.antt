-- `fits`: four bytes hold every number of 32 bits.
-- Assumes nothing.
use Rattle.octets.proofs.Words.{sym, arith}
use Rattle.frame_writing.proofs.ListedLaws.{wide_fits}
use Rattle.frame_writing.proofs.numbers.fits.Goals as goal

pub returns-in_default : goal.returns-in_default
returns-in_default c = sym (wide_fits c.args.number c.args.width (omega arith) (omega arith))
