-- `place_from`: what is searched from the place on is what is searched in all.
-- Assumes nothing.
use Rattle.octets.proofs.Words.{arith}
use Rattle.site_sheet.proofs.PlaceLaws.{place_found, place_further, not-there}
use Rattle.site_sheet.proofs.sheet.Sheet.place_from.Goals as goal

pub returns-then-row_at-unit : goal.returns-then-row_at-unit
returns-then-row_at-unit c =
    let l = c.loop-place in
    (omega arith, place_found _ _ l.place _ c.row_at.result (omega arith) l.invariant c.row_at.ensures c.if-row_at-unit.true)

pub loop-place-preserved : goal.loop-place-preserved
loop-place-preserved c =
    let l = c.loop-place in
    place_further _ _ l.place _ c.row_at.result (omega arith) l.invariant c.row_at.ensures c.if-row_at-unit.false

pub returns : goal.returns
returns c = not-there _ _ _ c.loop-place.place (omega arith) c.loop-place.invariant
