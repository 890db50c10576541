-- `first_unit`: the lowest of the rows from the place on.
-- Assumes nothing.
use Rattle.octets.proofs.Words.{◌≡◌, drop}
use Rattle.site_sheet.specs.Seen.{found_unit}
use Rattle.site_sheet.specs.SheetBytes.{sheet_in}
use Rattle.site_sheet.specs.Verdicts.{bad_units, soonest}
use Rattle.site_sheet.proofs.sheet.Sheet.first_unit.Given as goal

abbrev pub invariant-loop-place : goal.invariant-loop-place
invariant-loop-place l = found_unit l.best ≡ soonest (bad_units l.data_slots (drop l.place (sheet_in l.self.bytes.now)))
