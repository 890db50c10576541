-- `braidlark_forward`: what forwarding leaves of the stored table and the buffer.
-- Assumes nothing.
use Rattle.c_routes.proofs.RelayCallLaws.{unforwarded, forwarded}
use Rattle.c_routes.proofs.relay_calls.braidlark_forward.Goals as goal

pub returns-in-Ok : goal.returns-in-Ok
returns-in-Ok c =
    let a = c.args in
    rw c.from.ensures (forwarded a.table.now a.network a.manager a.frame.now a.delay a.time a.out.now _ _ _ c.in-Ok.size c.in-Ok.ensures)

pub returns-in-Err : goal.returns-in-Err
returns-in-Err c =
    let a = c.args in
    rw c.number.ensures (unforwarded a.table.now a.network a.manager a.frame.now a.delay a.time a.out.now _ _ _ c.in-Err.reason c.in-Err.ensures)
