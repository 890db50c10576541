-- `put_numbers`'s loop: to store the numbers that are left is to store them all.
-- Assumes nothing.
use Rattle.octets.proofs.Words.{◌≡◌, ◌*◌, ◌≤◌, length, drop, sets}
use Rattle.frame_reading.specs.Seen.{seen_fields}
use Rattle.frame_reading.proofs.numbers.put_numbers.Given as goal

abbrev pub invariant-loop-k : goal.invariant-loop-k
invariant-loop-k l = (l.place ≤ 255 * l.k) × (length l.out ≡ length l.initial.out) ×
    (sets l.out l.k (seen_fields (drop l.k l.widths) l.s l.place) ≡ sets l.initial.out 0 (seen_fields l.widths l.s 0))
