-- `put_rows`'s loop: to store the rows in use that are left is to store them all.
-- Assumes nothing.
use Rattle.octets.proofs.Words.{refl, rules}
use Rattle.route_bytes.proofs.TableByteLaws.{stored_end, stored_last, stored_on}
use Rattle.route_bytes.proofs.tables.put_rows.Goals as goal

pub returns-then-row-eq0 : goal.returns-then-row-eq0
returns-then-row-eq0 c =
    let a = c.args in
    stored_end a.out.now c.loop-used.out a.rows.now c.loop-used.used (search rules) c.loop-used.invariant (search rules) c.if-row-eq0.true

pub loop-used-preserved : goal.loop-used-preserved
loop-used-preserved c =
    let a = c.args in
    stored_on a.out.now c.loop-used.out a.rows.now c.loop-used.used (search rules) c.loop-used.invariant _ (search rules) c.if-row-eq0.false c.put_row.ensures _ refl (search rules)

pub returns : goal.returns
returns c =
    let a = c.args in
    stored_last a.out.now c.loop-used.out a.rows.now c.loop-used.used (search rules) c.loop-used.invariant (search rules)
