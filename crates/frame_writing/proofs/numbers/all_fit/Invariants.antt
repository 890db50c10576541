-- `all_fit`'s loop: whether the numbers that are left fit.
-- Assumes nothing.
use Rattle.octets.proofs.Words.{◌≡◌, drop}
use Rattle.frames.specs.Listed.{fitting}
use Rattle.frame_writing.proofs.numbers.all_fit.Given as goal

abbrev pub invariant-loop-k : goal.invariant-loop-k
invariant-loop-k l = fitting (drop l.k l.widths) l.numbers l.k ≡ fitting l.widths l.numbers 0
