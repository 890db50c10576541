-- `xor_of`'s loop: x is the XOR of the bytes passed.
-- Assumes nothing.
use Rattle.octets.proofs.Words.{◌≡◌, take}
use Rattle.octets.specs.Sums.{xors}
use Rattle.octets.proofs.sums.xor_of.Given as goal

abbrev pub invariant-loop-byte : goal.invariant-loop-byte
invariant-loop-byte l = l.x ≡ xors 0 (take l.byte-index l.byte-items)
