-- `distinct`: the rows from the place on.
-- Assumes nothing.
use Rattle.octets.proofs.Words.{arith, rules}
use Rattle.site_sheet.proofs.PlaceLaws.{distinct_none, distinct-turn}
use Rattle.site_sheet.proofs.sheet.Sheet.distinct.Goals as goal

pub loop-place-init : goal.loop-place-init
loop-place-init c = search (rules, distinct_none)

pub loop-place-preserved : goal.loop-place-preserved
loop-place-preserved c =
    let l = c.loop-place in
    distinct-turn _ l.place c.row_at-unit.result c.place_from.result _ _ c.loop-place-test.true (omega arith) l.invariant c.row_at-unit.ensures c.place_from.ensures c.is_none-good.ensures
