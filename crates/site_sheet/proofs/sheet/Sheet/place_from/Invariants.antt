-- `place_from`: what is searched from the place on is what is searched in all.
-- Assumes nothing.
use Rattle.octets.proofs.Words.{◌≡◌, ◌+◌, drop}
use Rattle.site_sheet.specs.Seen.{place_of}
use Rattle.site_sheet.specs.SheetBytes.{sheet_in}
use Rattle.site_sheet.proofs.sheet.Sheet.place_from.Given as goal

abbrev pub invariant-loop-place : goal.invariant-loop-place
invariant-loop-place l =
    let sheet = sheet_in l.self.bytes.now in
    l.place + place_of (drop l.place sheet) l.unit ≡ l.from + place_of (drop l.from sheet) l.unit
