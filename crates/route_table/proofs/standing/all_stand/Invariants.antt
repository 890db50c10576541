-- `all_stand`'s loop: whether the rows from an index on stand is whether all do.
-- Assumes nothing.
use Rattle.octets.proofs.Words.{◌≡◌, drop}
use Rattle.octets.specs.Lists.{every}
use Rattle.route_table.specs.Rows.{stands, in_use}
use Rattle.route_table.proofs.standing.all_stand.Given as goal

abbrev pub invariant-loop-row : goal.invariant-loop-row
invariant-loop-row l = every (stands l.time) (in_use (drop l.row-index l.row-items)) ≡ every (stands l.time) (in_use l.row-items)
