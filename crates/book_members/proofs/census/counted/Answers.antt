-- `counted`'s loop goes down from the last row: what the rows from i on hold, how many are free, and where among them the unit and the lowest free row are.
-- Assumes nothing.
use Rattle.book_members.proofs.CensusLaws.{counted_start, counted-turn, placed-start, placed_turn}
use Rattle.book_members.proofs.census.counted.Goals as goal

pub loop-i-init : goal.loop-i-init
loop-i-init c =
    let ms = c.args.rows.now in
    (counted_start ms, placed-start ms _, placed-start ms 0)

pub loop-i-preserved : goal.loop-i-preserved
loop-i-preserved c =
    let k = c.loop-i.invariant in
    let more = c.loop-i-test.true in (
      counted-turn k.0 more _ c.joined-held.ensures,
      placed_turn k.0 more _ _ _ k.1 c.either-own.ensures,
      placed_turn k.0 more 0 _ _ k.2 c.either-place.ensures,
    )
