-- `current`'s loop changes each row but the first: what is done, with what is left to do, is all of them.
-- Assumes nothing.
use Rattle.octets.proofs.Words.{◌≤◌, length, arith, rules}
use Rattle.book_members.proofs.RowLoopLaws.{current-turn, current_end, current_put}
use Rattle.book_members.proofs.rows.current.Goals as goal

pub loop-member-preserved : goal.loop-member-preserved
loop-member-preserved c =
    let l = c.loop-member in
    current-turn c.args.time l.member-index l.member-items _ l.invariant (omega (arith, c.loop-member-test.true, l.auto.member-items)) _ c.kept.ensures

pub returns : goal.returns
returns c =
    let l = c.loop-member in
    let a = c.args in
    let ended : length l.member-items ≤ l.member-index = omega (arith, c.loop-member-test.false, l.auto.member-items) in
    current_put a.time a.rows l.member-items (search rules) (current_end a.time l.member-index l.member-items _ l.invariant ended)
