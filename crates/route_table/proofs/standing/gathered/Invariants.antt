-- `gathered`'s loop gathers the standing rows of the places passed.
-- Assumes nothing.
use Rattle.route_table.proofs.RowLaws.{Gathered}
use Rattle.route_table.proofs.standing.gathered.Given as goal

abbrev pub invariant-loop-row : goal.invariant-loop-row
invariant-loop-row l = Gathered l.time l.row-items l.row-index l.n l.out
