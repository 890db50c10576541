-- `single`: those below the next place, without those below the place.
-- Assumes nothing.
use Rattle.octets.proofs.Words.{rules}
use Rattle.site_sheet.proofs.NeighbourLaws.{single_as}
use Rattle.site_sheet.proofs.neighbours.single.Goals as goal

pub returns : goal.returns
returns c = search (rules, single_as)
