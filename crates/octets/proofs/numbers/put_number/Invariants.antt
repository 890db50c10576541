-- `put_number`'s loop: to store the digits that are left is to store them all.
-- Assumes nothing.
use Rattle.octets.proofs.Words.{◌≡◌, length, sets}
use Rattle.octets.specs.Numbers.{digits}
use Rattle.octets.proofs.numbers.put_number.Given as goal

abbrev pub invariant-loop : goal.invariant-loop
invariant-loop l = (length l.out ≡ length l.initial.out) × (sets l.out l.place (digits l.counter l.rest) ≡ sets l.initial.out l.at (digits l.width l.value))
