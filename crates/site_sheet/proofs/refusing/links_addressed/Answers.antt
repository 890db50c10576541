-- `links_addressed`: the links from the place on.
-- Assumes nothing.
use Rattle.octets.proofs.Words.{rules}
use Rattle.site_sheet.proofs.RefusalLaws.{links-none, links_more}
use Rattle.site_sheet.proofs.refusing.links_addressed.Goals as goal

pub loop-place-init : goal.loop-place-init
loop-place-init c = search (rules, links-none)

pub loop-place-preserved : goal.loop-place-preserved
loop-place-preserved c = search (rules, links_more)
