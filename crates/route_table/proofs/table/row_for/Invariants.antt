-- `row_for`'s loop: the row that is looked for is that of the places from an index on.
-- Assumes nothing.
use Rattle.octets.proofs.Words.{◌≡◌, drop}
use Rattle.route_table.specs.Rows.{in_use, row_for}
use Rattle.route_table.proofs.table.row_for.Given as goal

abbrev pub invariant-loop-row : goal.invariant-loop-row
invariant-loop-row l = row_for l.destination (in_use (drop l.row-index l.row-items)) ≡ row_for l.destination (in_use l.row-items)
