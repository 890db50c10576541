-- `neighbours_of`: what is known at each link, from the last to the first.
-- Assumes nothing.
use Rattle.site_sheet.proofs.LinkLaws.{SoFar}
use Rattle.site_sheet.proofs.neighbours.neighbours_of.Given as goal

abbrev pub invariant-loop-place : goal.invariant-loop-place
invariant-loop-place l = SoFar l.links l.sheet.bytes.now l.sheet.count l.masks l.place
