-- `put_entries`'s loop: to store the entries for the rows left is to store them all.
-- Assumes nothing.
use Rattle.octets.proofs.Words.{◌≡◌, ◌+◌, ◌*◌, drop, sets}
use Rattle.route_pages.proofs.EntryLaws.{row_entries}
use Rattle.route_pages.proofs.writing.put_entries.Given as goal

abbrev pub invariant-loop-i : goal.invariant-loop-i
invariant-loop-i l = sets l.out (8 + 10 * l.i) (row_entries l.time (drop l.i l.rows)) ≡ sets l.initial.out 8 (row_entries l.time l.rows)
