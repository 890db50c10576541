-- `used`: the rows in front.
-- Assumes nothing.
use Rattle.octets.proofs.Words.{◌≡◌, refl, rules, length}
use Rattle.book_members.proofs.RowLoopLaws.{rows_used, lie_there}
use Rattle.book_members.proofs.rows.used.Goals as goal

pub returns : goal.returns
returns c =
    let a = c.args in
    let l : length a.rows.now ≡ 21 = search rules in
    let (rows, long) = rows_used a.rows.now a.count l in
    rw c.in_use.ensures (rows, long, lie_there _ refl rows)
