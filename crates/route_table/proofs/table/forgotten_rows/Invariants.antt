-- `forgotten_rows`'s loop: what is done, with what is left to do, is every row changed.
-- Assumes nothing.
use Rattle.octets.proofs.Words.{◌≡◌, ◌++◌, map, length, take, drop}
use Rattle.route_table.specs.Rows.{forgotten}
use Rattle.route_table.proofs.table.forgotten_rows.Given as goal

abbrev pub invariant-loop-row : goal.invariant-loop-row
invariant-loop-row l = (length l.row-items ≡ 48) × (take l.row-index l.row-items ++ map (forgotten l.unit l.time) (drop l.row-index l.row-items) ≡ map (forgotten l.unit l.time) l.initial.row-items)
