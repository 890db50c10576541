-- `put_rows`'s loop: to write the rows that are left is to write them all.
-- Assumes nothing.
use Rattle.octets.proofs.Words.{◌∙◌, arith, drop_of_length-le}
use Rattle.octets.proofs.RunLaws.{part-turn}
use Rattle.book_members.specs.Members.{rows_of}
use Rattle.book_image.proofs.ImageLaws.{members_run}
use Rattle.book_image.proofs.writing.put_rows.Goals as goal

pub loop-written-preserved : goal.loop-written-preserved
loop-written-preserved c =
    let l = c.loop-written in
    let rows = c.args.rows.now in
    part-turn members_run l.out rows 20 l.written _ (omega arith) _ (omega arith) c.put_row.ensures ∙ l.invariant

pub returns : goal.returns
unfolding rows_of
returns c =
    let l = c.loop-written in
    rw (drop_of_length-le c.args.rows.now c.loop-written-test.false) at l.invariant
