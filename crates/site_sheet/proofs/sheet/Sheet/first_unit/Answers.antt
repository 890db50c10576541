-- `first_unit`: the lowest of the rows from the place on.
-- Assumes nothing.
use Rattle.octets.proofs.Words.{rules}
use Rattle.site_sheet.proofs.JudgeLaws.{none-bad, unit-passed, unit-taken}
use Rattle.site_sheet.proofs.sheet.Sheet.first_unit.Goals as goal

pub loop-place-init : goal.loop-place-init
loop-place-init c = search (rules, none-bad)

pub loop-place-preserved-then-good : goal.loop-place-preserved-then-good
loop-place-preserved-then-good c = search (rules, unit-passed)

pub loop-place-preserved : goal.loop-place-preserved
loop-place-preserved c = search (rules, unit-taken)
