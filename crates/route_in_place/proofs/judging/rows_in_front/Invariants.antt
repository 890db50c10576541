-- `rows_in_front`'s loop: the rows passed are right, and the rest is exactly if the whole is; the row that is wanted was found or is among the rest.
-- Assumes nothing.
use Rattle.route_in_place.proofs.JudgedLaws.{Judging}
use Rattle.route_in_place.proofs.judging.rows_in_front.Given as goal

abbrev pub invariant-loop-place : goal.invariant-loop-place
invariant-loop-place l = Judging l.s l.own l.last l.wanted l.below l.past l.place
