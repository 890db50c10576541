-- `row_at`: the numbers of a row in a part of the bytes are those in all of them.
-- Assumes nothing.
use Rattle.octets.proofs.Words.{◌+◌, ◌-◌, ◌*◌, arith}
use Rattle.site_sheet.proofs.RowLaws.{row_read}
use Rattle.site_sheet.proofs.rows.row_at.Goals as goal

pub returns : goal.returns
returns c =
    let a = c.args in
    row_read a.sheet.now a.place (10 * a.place + 10 - 10 * a.place) _ _ (omega arith) c.read.ensures c.read-2.ensures
