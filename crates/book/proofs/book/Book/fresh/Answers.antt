-- `Book::fresh`: the manager in the first row.
-- Assumes nothing.
use Rattle.octets.proofs.Words.{rules}
use Rattle.slot_sets.proofs.MaskLaws.{mask-nothing}
use Rattle.book_members.specs.Members.{rows_of}
use Rattle.book.specs.Books.{fresh_of}
use Rattle.book.proofs.book.Book.fresh.Goals as goal

pub returns : goal.returns
unfolding fresh_of rows_of
returns c = rw (mask-nothing, c.below.ensures) (search rules)
