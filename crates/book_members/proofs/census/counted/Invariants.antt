-- `counted`'s loop goes down from the last row: what the rows from i on hold, how many are free, and where among them the unit and the lowest free row are.
-- Assumes nothing.
use Rattle.octets.proofs.Words.{◌≡◌}
use Rattle.book_members.proofs.CensusLaws.{Counted, placed_from}
use Rattle.book_members.proofs.census.counted.Given as goal

abbrev pub invariant-loop-i : goal.invariant-loop-i
invariant-loop-i l =
    Counted l.rows l.i l.held l.vacant × (l.own ≡ placed_from l.unit l.rows l.i) × (l.place ≡ placed_from 0 l.rows l.i)
