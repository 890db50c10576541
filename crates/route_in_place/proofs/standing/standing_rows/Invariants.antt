-- `standing_rows`'s loop: the rows that stand among the places passed are at the front.
-- Assumes nothing.
use Rattle.route_table.proofs.RowLaws.{Gathered}
use Rattle.route_in_place.proofs.FindLaws.{places}
use Rattle.route_in_place.proofs.standing.standing_rows.Given as goal

abbrev pub invariant-loop-place : goal.invariant-loop-place
invariant-loop-place l = Gathered l.time (places l.s) l.place l.n l.out
