-- `led_by`: the first row's unit, or no row.
-- Assumes nothing.
use Rattle.octets.proofs.Words.{rules}
use Rattle.std.proofs.Common.{tests}
use Rattle.book_members.proofs.RowLoopLaws.{first_is}
use Rattle.book_members.proofs.rules.led_by.Goals as goal

pub returns : goal.returns
returns c =
    let a = c.args in
    first_is a.manager a.rows.now c.first.result c.first.ensures.value c.is_some_and.result c.is_some_and.ensures (λ x k. search (rules, tests))
