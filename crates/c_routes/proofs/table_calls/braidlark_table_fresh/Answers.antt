-- `braidlark_table_fresh`: the fresh table, over as many bytes as it has.
-- Assumes nothing.
use Rattle.octets.proofs.Words.{◌≡◌, length, rules}
use Rattle.c_routes.proofs.TableCallLaws.{fresh-short, fresh-refused, fresh-written}
use Rattle.c_routes.proofs.table_calls.braidlark_table_fresh.Goals as goal

pub returns-then-table-ne539 : goal.returns-then-table-ne539
returns-then-table-ne539 c =
    let a = c.args in
    rw c.number.ensures (fresh-short a.table.now a.own a.time c.if-table-ne539.true)

pub returns-in-Ok : goal.returns-in-Ok
returns-in-Ok c =
    let a = c.args in
    let long : length a.table.now ≡ 539 = search rules in
    fresh-written a.table.now a.own a.time long c.in-Ok.fresh c.in-Ok.ensures c.head.result c.head.ensures _ c.put_empty.ensures

pub returns-in-Err : goal.returns-in-Err
returns-in-Err c =
    let a = c.args in
    let long : length a.table.now ≡ 539 = search rules in
    rw c.number-in-Err.ensures (fresh-refused a.table.now a.own a.time long c.in-Err.refusal c.in-Err.ensures)
