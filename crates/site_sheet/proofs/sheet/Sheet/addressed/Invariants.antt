-- `addressed`: the rows from the place on.
-- Assumes nothing.
use Rattle.octets.proofs.Words.{◌≡◌, drop}
use Rattle.octets.specs.Lists.{every}
use Rattle.site_sheet.specs.SheetBytes.{sheet_in}
use Rattle.site_sheet.specs.Sheets.{unit_addressed}
use Rattle.site_sheet.proofs.sheet.Sheet.addressed.Given as goal

abbrev pub invariant-loop-place : goal.invariant-loop-place
invariant-loop-place l = l.good ≡ every unit_addressed (drop l.place (sheet_in l.self.bytes.now))
