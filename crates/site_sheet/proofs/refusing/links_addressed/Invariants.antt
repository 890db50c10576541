-- `links_addressed`: the links from the place on.
-- Assumes nothing.
use Rattle.octets.proofs.Words.{◌≡◌, drop}
use Rattle.octets.specs.Lists.{every}
use Rattle.site_sheet.specs.SheetBytes.{links_in}
use Rattle.site_sheet.specs.Sheets.{link_addressed}
use Rattle.site_sheet.proofs.refusing.links_addressed.Given as goal

abbrev pub invariant-loop-place : goal.invariant-loop-place
invariant-loop-place l = l.good ≡ every link_addressed (drop l.place (links_in l.links))
