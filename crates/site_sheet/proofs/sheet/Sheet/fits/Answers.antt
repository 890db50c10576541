-- `fits`: a row is a unit.
-- Assumes nothing.
use Rattle.octets.proofs.Words.{ap, ◌∙◌, ℕ, leb}
use Rattle.site_sheet.proofs.RowLaws.{rows-length}
use Rattle.site_sheet.proofs.sheet.Sheet.fits.Goals as goal

pub returns : goal.returns
returns c = let a = c.args in ap (λ (n : ℕ). leb n a.rows) (a.self.counted ∙ rows-length a.self.bytes.now)
