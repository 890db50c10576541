-- `put_rows`'s loop: to store the rows in use that are left is to store them all.
-- Assumes nothing.
use Rattle.route_bytes.proofs.TableByteLaws.{Storing}
use Rattle.route_bytes.proofs.tables.put_rows.Given as goal

abbrev pub invariant-loop-used : goal.invariant-loop-used
invariant-loop-used l = Storing l.initial.out l.out l.rows l.used
