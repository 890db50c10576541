-- `put_book`: the plan, the time behind it, and the rows behind that.
-- Assumes nothing.
use Rattle.octets.proofs.Words.{◌∙◌, rules}
use Rattle.book.specs.Books.{contents}
use Rattle.book_bytes.proofs.BookByteLaws.{plan-first}
use Rattle.book_bytes.proofs.books.put_book.Goals as goal

pub returns : goal.returns
returns c =
    let a = c.args in
    (c.put_members.ensures ∙ rw (c.store.ensures, c.put_plan.ensures) (plan-first a.out.now (contents a.book)), search rules)
