-- `zeros_from`'s loop: what was passed and what is left are zeros exactly if all is.
-- Assumes nothing.
use Rattle.octets.proofs.Words.{◌≡◌, ◌&&◌}
use Rattle.octets.specs.Zeros.{zeros_from}
use Rattle.octets.proofs.zeros.zeros_from.Given as goal

abbrev pub invariant-loop-byte : goal.invariant-loop-byte
invariant-loop-byte l = (l.ok && zeros_from l.byte-index l.byte-items) ≡ zeros_from l.at l.s
