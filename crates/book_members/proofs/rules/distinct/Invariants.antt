-- `distinct`'s loop: the rows that it passed are distinct.
-- Assumes nothing.
use Rattle.octets.proofs.Words.{◌≡◌, take, true}
use Rattle.book_members.specs.Members.{rows_of}
use Rattle.book_members.specs.Rules.{distinct}
use Rattle.book_members.proofs.rules.distinct.Given as goal

abbrev pub invariant-loop-at : goal.invariant-loop-at
invariant-loop-at l = distinct (take l.at (rows_of l.rows)) ≡ true
