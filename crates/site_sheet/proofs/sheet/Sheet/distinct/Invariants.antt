-- `distinct`: the rows from the place on.
-- Assumes nothing.
use Rattle.octets.proofs.Words.{◌≡◌, drop}
use Rattle.site_sheet.specs.SheetBytes.{sheet_in}
use Rattle.site_sheet.specs.Sheets.{distinct}
use Rattle.site_sheet.proofs.sheet.Sheet.distinct.Given as goal

abbrev pub invariant-loop-place : goal.invariant-loop-place
invariant-loop-place l = l.good ≡ distinct (drop l.place (sheet_in l.self.bytes.now))
