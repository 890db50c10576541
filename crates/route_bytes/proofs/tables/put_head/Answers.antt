-- `put_head`: the numbers of the head, one behind the other.
-- Assumes nothing.
use Rattle.octets.proofs.Words.{refl}
use Rattle.octets.proofs.StoreLaws.{all-put, put, done}
use Rattle.route_bytes.specs.TableBytes.{head_widths, head_values}
use Rattle.route_bytes.proofs.TableByteLaws.{flag_byte}
use Rattle.route_bytes.proofs.tables.put_head.Goals as goal

pub returns : goal.returns
returns c =
    let a = c.args in
    all-put a.out.now 0 head_widths (head_values a.head) _
    (put c.store.ensures refl
    (put c.store-2.ensures refl
    (put (rw (c.from.ensures, flag_byte a.head.forwarded) at c.store-3.ensures) refl (put c.store-4.ensures refl (put c.store-5.ensures refl done)))))
