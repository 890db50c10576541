-- `row_ending`: none, or the row in the 11 bytes in front.
-- Assumes nothing.
use Rattle.route_in_place.proofs.JudgedLaws.{ends}
use Rattle.route_in_place.proofs.judging.row_ending.Goals as goal

pub returns : goal.returns
returns c = ends _ _ c.if-past-lt11.false _ c.row_in.ensures
