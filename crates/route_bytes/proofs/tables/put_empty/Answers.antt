-- `put_empty`: the head, and zeros up to the end.
-- Assumes nothing.
use Rattle.route_bytes.proofs.TableByteLaws.{empty_stored}
use Rattle.route_bytes.proofs.tables.put_empty.Goals as goal

pub returns : goal.returns
returns c =
    let a = c.args in
    empty_stored a.out.now a.head c.if-out-ne539.false _ c.put_head.ensures _ c.put_zeros.ensures
