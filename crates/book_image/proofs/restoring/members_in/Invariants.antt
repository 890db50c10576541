-- `members_in`'s loop: the rows passed stand in front.
-- Assumes nothing.
use Rattle.octets.proofs.Words.{◌≡◌, ◌++◌, length, drop}
use Rattle.octets.specs.Lists.{tab}
use Rattle.book_members.specs.Members.{rows_of}
use Rattle.book_image.specs.Images.{row_in}
use Rattle.book_image.proofs.restoring.members_in.Given as goal

abbrev pub invariant-loop-place : goal.invariant-loop-place
invariant-loop-place l = (length l.rows ≡ 21) × (rows_of l.rows ≡ tab l.place (row_in l.s l.time) ++ drop l.place (rows_of l.initial.rows))
