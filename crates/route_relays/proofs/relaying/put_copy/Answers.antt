-- `put_copy`: the frame's bytes, then the ttl and the checksum over them.
-- Assumes nothing.
use Rattle.octets.proofs.Words.{arith, length-sets, length-set}
use Rattle.route_relays.proofs.CopyLaws.{ten_bytes, copied}
use Rattle.route_relays.proofs.relaying.put_copy.Goals as goal

pub overflow_sub-last : goal.overflow_sub-last
overflow_sub-last c = omega (arith, ten_bytes _ c.requires.0)

pub bounds-frame-last : goal.bounds-frame-last
bounds-frame-last c = omega (arith, ten_bytes _ c.requires.0)

pub bounds-frame-5 : goal.bounds-frame-5
bounds-frame-5 c = omega (arith, ten_bytes _ c.requires.0)

pub bounds-out-5 : goal.bounds-out-5
bounds-out-5 c =
    rw (c.put_bytes.ensures, length-sets) (omega (arith, ten_bytes _ c.requires.0, c.requires.1))

pub bounds-out-last : goal.bounds-out-last
bounds-out-last c =
    rw (length-set, c.put_bytes.ensures, length-sets) (omega (arith, ten_bytes _ c.requires.0, c.requires.1))

pub returns : goal.returns
returns c =
    rw c.put_bytes.ensures
    (copied c.args.frame.now (record { small = λ i. omega (arith, c.type_inv.frame i) }) c.requires.0 c.args.out.now c.requires.1 _ c.saturating_sub-next.ensures)
