-- `put_layout`'s loop: to store the numbers that are left is to store them all.
-- Assumes nothing.
use Rattle.octets.proofs.Words.{◌≡◌, length, drop, sets}
use Rattle.octets.specs.Layouts.{bytes}
use Rattle.octets.proofs.layouts.put_layout.Given as goal

abbrev pub invariant-loop-k : goal.invariant-loop-k
invariant-loop-k l = (length l.out ≡ length l.initial.out) × (sets l.out l.place (bytes (drop l.k l.widths) (drop l.k l.values)) ≡ sets l.initial.out l.at (bytes l.widths l.values))
