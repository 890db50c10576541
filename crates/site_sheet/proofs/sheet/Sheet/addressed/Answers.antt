-- `addressed`: the rows from the place on.
-- Assumes nothing.
use Rattle.octets.proofs.Words.{rules}
use Rattle.site_sheet.proofs.RefusalLaws.{units-none, units_more}
use Rattle.site_sheet.proofs.sheet.Sheet.addressed.Goals as goal

pub loop-place-init : goal.loop-place-init
loop-place-init c = search (rules, units-none)

pub loop-place-preserved : goal.loop-place-preserved
loop-place-preserved c = search (rules, units_more)
