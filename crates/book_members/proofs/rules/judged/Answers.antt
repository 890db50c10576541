-- `judged`'s loop goes down from the last row: how the rows from i on are judged, what they hold and how many are free.
-- Assumes nothing.
use Rattle.book_members.proofs.CensusLaws.{counted_start, judged-start, counted-turn, judged-turn}
use Rattle.book_members.proofs.rules.judged.Goals as goal

pub loop-i-init : goal.loop-i-init
loop-i-init c =
    let a = c.args in
    (counted_start a.rows.now, judged-start a.rows.now a.manager _ a.last)

pub loop-i-preserved : goal.loop-i-preserved
loop-i-preserved c =
    let l = c.loop-i in (
      counted-turn l.invariant.0 c.loop-i-test.true _ c.joined-held.ensures,
      judged-turn l.invariant.0 c.loop-i-test.true _ _ _ _ _ _ l.invariant.1 c.within_rule.ensures c.apart.ensures,
    )
