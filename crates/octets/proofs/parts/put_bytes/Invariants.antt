-- `put_bytes`'s loop: to store the bytes that are left is to store them all.
-- Assumes nothing.
use Rattle.octets.proofs.Words.{◌≡◌, ◌+◌, length, drop, sets}
use Rattle.octets.proofs.parts.put_bytes.Given as goal

abbrev pub invariant-loop-k : goal.invariant-loop-k
invariant-loop-k l = (length l.out ≡ length l.initial.out) × (sets l.out (l.at + l.k) (drop l.k l.s) ≡ sets l.initial.out l.at l.s)
