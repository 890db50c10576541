-- `put_table`: the head, the rows in use behind it, and zeros up to the end.
-- Assumes nothing.
use Rattle.route_bytes.proofs.TableByteLaws.{whole-stored}
use Rattle.route_bytes.proofs.tables.put_table.Goals as goal

pub returns : goal.returns
returns c =
    let a = c.args in
    whole-stored a.out.now a.head a.rows c.put_rows-used.result c.if-out-ne539.false _ _ c.put_head.ensures c.put_rows-used.ensures.0 c.put_rows-used.ensures.1 c.put_rows-used.ensures.2
    _ c.put_zeros.ensures
