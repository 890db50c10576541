-- `put_row`: the row's numbers, one behind the other from a place on.
-- Assumes nothing.
use Rattle.octets.proofs.Words.{refl, arith}
use Rattle.octets.proofs.StoreLaws.{all-put, put, done}
use Rattle.route_bytes.specs.TableBytes.{row_widths, row_values}
use Rattle.route_bytes.proofs.TableByteLaws.{flag_byte}
use Rattle.route_bytes.proofs.tables.put_row.Goals as goal

pub returns : goal.returns
returns c =
    let a = c.args in
    all-put a.out.now a.place row_widths (row_values a.row) _
    (put c.store.ensures (omega arith)
    (put c.store-2.ensures (omega arith)
    (put c.store-3.ensures (omega arith)
    (put c.store-4.ensures (omega arith)
    (put c.store-5.ensures (omega arith)
    (put (rw (c.from.ensures, flag_byte a.row.withdrawn) at c.store-6.ensures) refl done))))))
