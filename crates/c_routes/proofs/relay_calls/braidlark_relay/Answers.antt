-- `braidlark_relay`: why it is neither handed back nor passed on, or what is told of it.
-- Assumes nothing.
use Rattle.octets.proofs.Words.{refl, arith}
use Rattle.octets.proofs.RefusalLaws.{refusal_some}
use Rattle.c_routes.proofs.RelayCallLaws.{relay-size, relay-accepted, relay-refused}
use Rattle.c_routes.proofs.relay_calls.braidlark_relay.Goals as goal

pub overflow_cast-length : goal.overflow_cast-length
overflow_cast-length c =
    let a = c.args in
    omega (arith, relay-size a.table.now a.frame.now a.time a.least_left a.out.now 0 0 0 0 _ _ (rw c.in-Ok-Ours.field-0-is at c.in-Ok-Ours.ensures) refl)

pub overflow_cast-length-in-Ok-Copied : goal.overflow_cast-length-in-Ok-Copied
overflow_cast-length-in-Ok-Copied c =
    let a = c.args in
    omega (arith, relay-size a.table.now a.frame.now a.time a.least_left a.out.now 0 0 0 0 _ _ (rw c.in-Ok-Copied.field-0-is at c.in-Ok-Copied.ensures) refl)

pub returns-in-Ok-Ours : goal.returns-in-Ok-Ours
returns-in-Ok-Ours c =
    let a = c.args in
    relay-accepted a.table.now a.frame.now a.time a.least_left a.out.now _ _ _ _ _ _ (rw c.in-Ok-Ours.field-0-is at c.in-Ok-Ours.ensures) refl

pub returns-in-Ok-Copied : goal.returns-in-Ok-Copied
returns-in-Ok-Copied c =
    let a = c.args in
    relay-accepted a.table.now a.frame.now a.time a.least_left a.out.now _ _ _ _ _ _ (rw c.in-Ok-Copied.field-0-is at c.in-Ok-Copied.ensures) refl

pub returns-in-Err : goal.returns-in-Err
returns-in-Err c =
    let a = c.args in
    rw c.number.ensures (relay-refused a.table.now a.frame.now a.time a.least_left a.out.now _ _ _ _ _ _ c.in-Err.ensures (refusal_some c.in-Err.refusal))
