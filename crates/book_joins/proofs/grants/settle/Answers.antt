-- `settle`: the row and the responses are written.
-- Assumes nothing.
use Rattle.slot_sets.specs.Sets.{slots_of}
use Rattle.book_members.specs.Members.{rows_of}
use Rattle.book_members.proofs.RowLoopLaws.{row_written}
use Rattle.book.specs.Books.{contents}
use Rattle.book_joins.proofs.GrantLaws.{settled}
use Rattle.book_joins.proofs.grants.settle.Goals as goal

pub returns : goal.returns
returns c =
    let a = c.args in
    let m = a.member in
    settled (contents a.book) m.unit m.time a.at (slots_of m.slots) a.out.now _ (rows_of a.rows) c.bytes_for.result c.put_responses.new.out c.bytes_for.ensures c.requires.rows
    (row_written a.rows a.at m) c.put_responses.ensures
