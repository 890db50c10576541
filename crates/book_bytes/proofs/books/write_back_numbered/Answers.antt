-- `write_back_numbered`: nothing is written where a number refuses it, else the book.
-- Assumes nothing.
use Rattle.octets.proofs.Words.{refl, sym, ◌∙◌, length-map}
use Rattle.octets.proofs.CallLaws.{after-accepted, after-refused}
use Rattle.book_members.specs.Members.{row_of, rows_of}
use Rattle.book.specs.Books.{contents}
use Rattle.book_bytes.proofs.BookByteLaws.{length-book}
use Rattle.book_bytes.proofs.books.write_back_numbered.Goals as goal

pub returns-then-refused-ne0 : goal.returns-then-refused-ne0
returns-then-refused-ne0 c = (refl, sym (after-refused _ _ _ c.if-refused-ne0.true), λ z. absurd (c.if-refused-ne0.true z))

pub returns : goal.returns
unfolding rows_of
returns c =
    let put = c.put_book.ensures in
    let a = c.args in
    let z = c.if-refused-ne0.false in
    (sym z, put.0 ∙ sym (after-accepted _ _ _ z), λ q. length-book (contents a.next) (length-map a.next.rows row_of ∙ put.1))
