-- `put_members`'s loop: to write the rows that are left is to write them all.
-- Assumes nothing.
use Rattle.octets.proofs.Words.{◌≡◌, ◌+◌, ◌*◌, drop, sets}
use Rattle.book_members.specs.Members.{rows_of}
use Rattle.book_bytes.specs.BookBytes.{rows_bytes}
use Rattle.book_bytes.proofs.books.put_members.Given as goal

abbrev pub invariant-loop-written : goal.invariant-loop-written
invariant-loop-written l = sets l.out (14 + 14 * l.written) (rows_bytes (rows_of (drop l.written l.rows))) ≡ sets l.initial.out 14 (rows_bytes (rows_of l.rows))
