-- `braidlark_merge`: what merging leaves of the stored table.
-- Assumes nothing.
use Rattle.c_routes.proofs.UpdateCallLaws.{unmerged, merged}
use Rattle.c_routes.proofs.update_calls.braidlark_merge.Goals as goal

pub returns-in-Ok : goal.returns-in-Ok
returns-in-Ok c =
    let a = c.args in
    merged a.table.now a.frame.now a.quality a.time _ _ _ c.in-Ok.tally c.in-Ok.ensures

pub returns-in-Err : goal.returns-in-Err
returns-in-Err c =
    let a = c.args in
    rw c.number.ensures (unmerged a.table.now a.frame.now a.quality a.time _ _ _ c.in-Err.refusal c.in-Err.ensures)
