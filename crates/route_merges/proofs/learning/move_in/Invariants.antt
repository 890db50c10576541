-- `move_in`'s loop: to move the row in hand in at the place that is reached is the whole.
-- Assumes nothing.
use Rattle.octets.proofs.Words.{◌≡◌, length}
use Rattle.route_merges.specs.Searching.{moved_in}
use Rattle.route_merges.proofs.learning.move_in.Given as goal

abbrev pub invariant-loop-i : goal.invariant-loop-i
invariant-loop-i l = (length l.rows ≡ 48) × (moved_in l.rows l.i l.hand ≡ moved_in l.fn.rows l.fn.at l.fn.row)
