-- `rows_within_rule`: the manager first, each row judged, no two of one unit, and room for the free ones.
-- Assumes nothing.
use Rattle.octets.proofs.Words.{ap, ◌∙◌}
use Rattle.slot_sets.specs.Sets.{count}
use Rattle.book_members.specs.Members.{rows_of}
use Rattle.book_members.proofs.RowLoopLaws.{rows_ruled}
use Rattle.book_members.proofs.rules.rows_within_rule.Goals as goal

pub returns : goal.returns
returns c =
    let a = c.args in
    let (good, held, vacant) = c.judged-all.ensures in
    rows_ruled a.manager _ a.last (rows_of a.rows.now) _ _ _ _ _ c.led_by.ensures good c.distinct.ensures vacant
    (c.size-room.ensures ∙ (ap count c.without.ensures ∙ rw (c.below.ensures, held)))
