-- `link_at`: the numbers of a link in a part of the bytes are those in all of them.
-- Assumes nothing.
use Rattle.octets.proofs.Words.{◌+◌, ◌-◌, ◌*◌, arith}
use Rattle.site_sheet.proofs.RowLaws.{ends_read}
use Rattle.site_sheet.proofs.rows.link_at.Goals as goal

pub returns : goal.returns
returns c =
    let a = c.args in
    ends_read a.links.now a.place (4 * a.place + 4 - 4 * a.place) _ _ (omega arith) c.read.ensures c.read-2.ensures
