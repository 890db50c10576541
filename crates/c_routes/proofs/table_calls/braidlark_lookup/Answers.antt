-- `braidlark_lookup`: the hop that was found, or why there is none.
-- Assumes nothing.
use Rattle.octets.proofs.Words.{refl}
use Rattle.octets.proofs.RefusalLaws.{refusal_some}
use Rattle.c_routes.proofs.TableCallLaws.{hop_found, none_found}
use Rattle.c_routes.proofs.table_calls.braidlark_lookup.Goals as goal

pub returns-in-Ok : goal.returns-in-Ok
returns-in-Ok c =
    let a = c.args in
    hop_found a.destination a.time _ _ _ a.table.now _ c.in-Ok.ensures refl

pub returns-in-Err : goal.returns-in-Err
returns-in-Err c =
    let a = c.args in
    rw c.number.ensures (none_found a.destination a.time _ _ _ a.table.now _ c.in-Err.ensures (refusal_some c.in-Err.refusal))
