-- `row_count`: what is counted and what is left is all.
-- Assumes nothing.
use Rattle.octets.proofs.Words.{◌≡◌, ◌+◌, ◌*◌, length}
use Rattle.site_sheet.specs.SheetBytes.{row_size}
use Rattle.site_sheet.proofs.rows.row_count.Given as goal

abbrev pub invariant-loop-left : goal.invariant-loop-left
invariant-loop-left l = row_size * l.count + l.left ≡ length l.sheet

abbrev pub decreases-loop-left : goal.decreases-loop-left
decreases-loop-left l = l.left
