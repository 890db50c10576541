-- `judged`'s loop goes down from the last row: how the rows from i on are judged, what they hold and how many are free.
-- Assumes nothing.
use Rattle.octets.proofs.Words.{◌≡◌}
use Rattle.book_members.specs.Judging.{judged}
use Rattle.book_members.proofs.CensusLaws.{from, Counted}
use Rattle.book_members.proofs.rules.judged.Given as goal

abbrev pub invariant-loop-i : goal.invariant-loop-i
invariant-loop-i l =
    Counted l.rows l.i l.held l.vacant × (l.good ≡ judged l.manager l.data_slots l.last (from l.rows l.i))
