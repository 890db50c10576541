-- `book_of`: the rows that its loop passed stand in front; then the plan and the time.
-- Assumes nothing.
use Rattle.octets.proofs.Words.{◌≡◌, ◌++◌, length, drop}
use Rattle.octets.specs.Lists.{tab}
use Rattle.book_members.specs.Members.{rows_of}
use Rattle.book_bytes.specs.BookBytes.{row_at}
use Rattle.book_bytes.proofs.books.book_of.Given as goal

abbrev pub invariant-loop-place : goal.invariant-loop-place
invariant-loop-place l =
    (length l.row-items ≡ 21) × (length (rows_of l.initial.row-items) ≡ 21) × (rows_of l.row-items ≡ tab l.place (row_at l.s) ++ drop l.place (rows_of l.initial.row-items))
