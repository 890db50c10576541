-- `renew`: the rows kept, zeros behind them, and the head.
-- Assumes nothing.
use Rattle.route_in_place.proofs.ChangeLaws.{renewed}
use Rattle.route_in_place.proofs.JudgedLaws.{judged-length}
use Rattle.route_in_place.proofs.changing.renew.Goals as goal

pub returns : goal.returns
returns c =
    let a = c.args in
    renewed a.table.now a.head _ c.keep_rows-count.result (judged-length _ c.requires) _ _ c.keep_rows-count.ensures.0 c.keep_rows-count.ensures.1 c.keep_rows-count.ensures.2
    c.put_zeros.ensures _ c.put_head.ensures
