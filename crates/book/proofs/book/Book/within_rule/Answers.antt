-- `Book::within_rule`: its plan, its rows, and zeros behind them.
-- Assumes nothing.
use Rattle.octets.proofs.Words.{rules}
use Rattle.book.proofs.WithinLaws.{rows_behind}
use Rattle.book.specs.Books.{within_rule}
use Rattle.book.proofs.book.Book.within_rule.Goals as goal

pub returns : goal.returns
unfolding within_rule
returns c =
    let b = c.args.self in
    rw (c.within_rule.ensures, c.rows_within_rule.ensures, c.all_empty.ensures, c.used.ensures.0, c.in_use.ensures, rows_behind b.rows b.plan.rows (search rules))
